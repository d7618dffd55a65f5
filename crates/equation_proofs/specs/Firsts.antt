-- The first formulas of lists by numbers, and what is told of a rule by them.
use Rattle.std.specs.Prelude.{◌≡◌, ℕ, Some, List, [], ◌∷◌}
use Rattle.core_expr.specs.Tree.{Tree, not_, eq_}
use Rattle.seq_calculus.specs.Calculus.{IsClosed}
use Rattle.search_trace.specs.declared.turn.Added.{Added}
use Rattle.search_definition.specs.Rules.Sides.{Alone}
use Rattle.search_definition.specs.Plain.{Left, left_side, Rewrite, rewrite_of}
use Rattle.search_definition.specs.Equations.{same_members}

-- the number of the first formula that is added
abbrev pub first_number : List Added → ℕ
first_number [] = 0
first_number (a ∷ as') = a.formula

-- the formula is the left side of a schema, and the right side is added; or so for their Nots
abbrev pub LeftTold : Tree → List Tree → Type 0
LeftTold f fs = (l : Left) × (left_side f ≡ Some l) × (Alone fs ≡ Alone (l.right ∷ []))

abbrev pub DeniedTold : Tree → List Tree → Type 0
DeniedTold f fs = (a : Tree) × (l : Left) × (f ≡ not_ a) × (left_side a ≡ Some l) × (Alone fs ≡ Alone (not_ l.right ∷ []))

-- the formula is an equation of sets, and that both have the same members is added; or so for their Nots
abbrev pub SameTold : Tree → List Tree → Type 0
SameTold f fs = (s : Tree) × (t : Tree) × (f ≡ eq_ s t) × (Alone fs ≡ Alone (same_members s t ∷ []))

abbrev pub MembersTold : Tree → List Tree → Type 0
MembersTold f fs = (s : Tree) × (t : Tree) × (f ≡ not_ (eq_ s t)) × (Alone fs ≡ Alone (not_ (same_members s t) ∷ []))

-- the two terms are the sides of an equation of a schema
abbrev pub RewriteTold : List Tree → Type 0
RewriteTold ts = (r : Rewrite) × (rewrite_of r.from ≡ Some r) × (ts ≡ r.from ∷ r.to ∷ []) × IsClosed r.from × IsClosed r.to

-- there is one term, which is closed
abbrev pub OneClosed : List Tree → Type 0
OneClosed ts = (t : Tree) × (ts ≡ t ∷ []) × IsClosed t
