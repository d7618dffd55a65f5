-- A universal with one of its atoms, and terms that there may be, by indices.
use Rattle.std.specs.Prelude.{ℕ, ◌<◌, Option, Some, None, List, length}
use Rattle.core_expr.specs.Tree.{Tree}
use Rattle.core_expr.specs.Put.{IsScoped}
use Rattle.term_bank.specs.Banks.{tree_at}
use Rattle.search_definition.specs.Branches.{Branch}
use Rattle.search_definition.specs.Instances.{Universal, Signed}
use Rattle.branch_state.specs.Shown.{Placed}
use Rattle.tableau_search.specs.Entries.{branch_of}
use Rattle.formula_rules.specs.declared.quantified.Quantified.{Quantified}
use Rattle.formula_rules.specs.Answers.{universal_of}
use Rattle.instance_terms.specs.Fresh.{signed_of}
use Rattle.instance_ranks.specs.declared.partners.Sought.{Sought}

-- the body of the universal is in the bank, and has no loose variable but its own
pub record IsBody (ts : List Tree) (u : Quantified) : Type 0 where
  pub within : u.body < length ts
  pub scoped : IsScoped 1 (tree_at ts u.body)

-- the universal's body and the atom are in the bank
pub record IsSought (ts : List Tree) (s : Sought) : Type 0 where
  pub body : IsBody ts s.universal
  pub atom : s.atom.atom < length ts

-- Where an instance is looked for: the branch, the universal, and one of its atoms.
pub record Aim : Type 0 where
  pub branch : Branch
  pub universal : Universal
  pub atom : Signed

-- the trees that the numbers stand for
abbrev pub aim_of : List Tree → List Placed → Sought → Aim
aim_of ts es s = record { branch = branch_of ts es; universal = universal_of ts s.universal; atom = signed_of ts s.atom }

-- the term at the index, if there is one
abbrev pub term_of : List Tree → Option ℕ → Option Tree
term_of ts None = None
term_of ts (Some t) = Some (tree_at ts t)

-- the term at the index, if there is one, is in the bank and closed
abbrev pub IsClosedTerm : List Tree → Option ℕ → Type 0
IsClosedTerm ts None = Unit {0}
IsClosedTerm ts (Some t) = (t < length ts) × IsScoped 0 (tree_at ts t)
