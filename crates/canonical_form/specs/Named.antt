-- The renaming that gives the symbols of an obligation their canonical numbers.
use Rattle.std.specs.Prelude.{◌≡◌, ℕ, zero, suc, true, List, [], ◌∷◌, map}
use Rattle.core_expr.specs.declared.head.Sym.{Sym}
use Rattle.core_expr.specs.Tree.{Tree, Parts}
use Rattle.core_expr.specs.Tree.Tree.{bound, app, node, bind}
use Rattle.core_expr.specs.Tree.Parts.{end, part}
use Rattle.core_expr.specs.Nodes.{canon_sym}
use Rattle.obligation.specs.declared.obligation.Obligation.{Obligation}
use Rattle.obligation.specs.Unfolding.{unfolded}
use Rattle.proof_contexts.specs.Canonical.{is_listed, distinct, symbols_of}

-- the variables n - 1 to 0, which stand for the arguments of a symbol with n of them
abbrev pub variables : ℕ → List Tree
variables zero = []
variables (suc n) = bound n ∷ variables n

-- the same as parts
abbrev pub own : ℕ → Parts
own zero = end
own (suc n) = part (bound n) (own n)

-- each symbol with the canonical symbol of its place over its own arguments; the first has the number n
abbrev pub pairs_from : ℕ → List Sym → List (Sym × Tree)
pairs_from n [] = []
pairs_from n (x ∷ xs) = (x, app (canon_sym n x.arity) (own x.arity)) ∷ pairs_from (suc n) xs

-- every symbol of an expression is one of these
abbrev mutual
  pub Covers : List Sym → Tree → Type 0
  Covers xs (bound i) = Unit {0}
  Covers xs (app f ps) = (is_listed xs f ≡ true) × CoversParts xs ps
  Covers xs (node h ns ps) = CoversParts xs ps
  Covers xs (bind b ps e) = CoversParts xs ps × Covers xs e

  pub CoversParts : List Sym → Parts → Type 0
  CoversParts xs end = Unit {0}
  CoversParts xs (part e ps) = Covers xs e × CoversParts xs ps

abbrev pub CoversAll : List Sym → List Tree → Type 0
CoversAll xs [] = Unit {0}
CoversAll xs (e ∷ es) = Covers xs e × CoversAll xs es

-- the different facts of an obligation, with its definitions unfolded
abbrev pub facts_of : Obligation → List Tree
facts_of o = distinct [] (map (unfolded o.defs) o.facts)

-- the symbol of each number of its canonical form
abbrev pub names_of : Obligation → List Sym
names_of o = symbols_of (facts_of o) (unfolded o.defs o.goal)
