-- Taking formulas apart into signed atoms, by indices.
use Rattle.std.specs.Prelude.{◌≡◌, ℕ, suc, ◌<◌, Bool, List, [], ◌∷◌, ◌++◌, length}
use Rattle.core_expr.specs.declared.head.Sym.{Sym}
use Rattle.core_expr.specs.Tree.{Tree}
use Rattle.core_expr.specs.Tree.Tree.{app}
use Rattle.core_expr.specs.Tree.Parts.{end}
use Rattle.core_expr.specs.Put.{IsScoped, inst}
use Rattle.search_definition.specs.Instances.{Signed, atoms, atom_or, mapped, taken_apart}
use Rattle.term_bank.specs.Banks.{tree_at}
use Rattle.instance_terms.specs.declared.expand.Part.{Part}
use Rattle.instance_terms.specs.declared.expand.Expansion.{Expansion}
use Rattle.instance_terms.specs.declared.expand.Expansion.TheVariants.{Nothing, Atom, One, Two, Four}

-- a formula with this sign, under the metavariables of p
abbrev pub part_of : Part → Bool → ℕ → Part
part_of p holds formula = record { holds = holds; formula = formula; metas = p.metas }

-- the formula is in the bank, and closed
pub record IsPart (ts : List Tree) (p : Part) : Type 0 where
  pub within : p.formula < length ts
  pub closed : IsScoped 0 (tree_at ts p.formula)

-- the signed atoms of a part, with room for r steps
abbrev pub part_atoms : List Tree → (ℕ → Sym) → ℕ → Part → List Signed
part_atoms ts name r p = atoms name r p.metas p.holds (tree_at ts p.formula)

-- the signed atoms of what stands for the formula t, which has the sign and the metavariables of p
abbrev pub expanded : List Tree → (ℕ → Sym) → ℕ → Part → Tree → Expansion → List Signed
expanded ts name r p t Nothing = []
expanded ts name r p t Atom = record { holds = p.holds; atom = t; metas = p.metas } ∷ []
expanded ts name r p t (One a) = part_atoms ts name r a
expanded ts name r p t (Two a b) = part_atoms ts name r a ++ part_atoms ts name r b
expanded ts name r p t (Four a b c d) = (part_atoms ts name r a ++ part_atoms ts name r b) ++ (part_atoms ts name r c ++ part_atoms ts name r d)

-- its parts are in the bank
abbrev pub HasParts : List Tree → Expansion → Type 0
HasParts ts Nothing = Unit {0}
HasParts ts Atom = Unit {0}
HasParts ts (One a) = IsPart ts a
HasParts ts (Two a b) = IsPart ts a × IsPart ts b
HasParts ts (Four a b c d) = IsPart ts a × IsPart ts b × IsPart ts c × IsPart ts d

-- what stands for the body of a quantified formula with the next metavariable
pub record IsOpened (ts : List Tree) (name : ℕ → Sym) (p : Part) (body : Tree) (e : Expansion) : Type 0 where
  pub parts : HasParts ts e
  pub same : (r : ℕ) (t : Tree) → atoms name r (suc p.metas) p.holds (inst body (app (name p.metas) end)) ≡ expanded ts name r p t e

-- what stands for an atom
pub record IsAtomStep (ts : List Tree) (p : Part) (t : Tree) (e : Expansion) : Type 0 where
  pub parts : HasParts ts e
  pub same : (name : ℕ → Sym) (r : ℕ) → atom_or p.holds p.metas t (mapped (atoms name r p.metas p.holds) (taken_apart t)) ≡ expanded ts name r p t e

-- what stands for a formula
pub record IsExpansion (ts : List Tree) (name : ℕ → Sym) (p : Part) (t : Tree) (e : Expansion) : Type 0 where
  pub parts : HasParts ts e
  pub same : (r : ℕ) → atoms name (suc r) p.metas p.holds t ≡ expanded ts name r p t e
