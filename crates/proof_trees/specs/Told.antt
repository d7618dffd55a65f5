-- What is told of a step: what it names and what terms it has, by its rule.
use Rattle.std.specs.Prelude.{◌≡◌, Some, List, [], ◌∷◌}
use Rattle.core_expr.specs.Tree.{Tree, not_, eq_}
use Rattle.seq_calculus.specs.Calculus.{IsClosed, AllClosed}
use Rattle.search_definition.specs.declared.rule.Rule.{Rule}
use Rattle.search_definition.specs.declared.rule.Rule.TheVariants.{LeftSide, DeniedLeftSide, Rewritten, SameMembers, OtherFunction, Replaced, Conditional, Application, Members, Instance, Spare, TakenUp}
use Rattle.search_definition.specs.Rules.{Sides, Step}
use Rattle.search_definition.specs.Rules.Sides.{Alone}
use Rattle.search_definition.specs.Plain.{Left, left_side, Rewrite, rewrite_of}
use Rattle.search_definition.specs.Equations.{same_members}
use Rattle.search_definition.specs.Search.{Move}
use Rattle.search_definition.specs.Search.Move.{Shuts, Applied}
use Rattle.proof_trees.specs.By.{head_of, tail_of}

-- a list of one term, or of two
abbrev pub IsOne : List Tree → Type 0
IsOne ts = (t : Tree) × (ts ≡ t ∷ [])

abbrev pub IsTwo : List Tree → Type 0
IsTwo ts = (s : Tree) × (t : Tree) × (ts ≡ s ∷ t ∷ [])

-- what a rule at the formula f has beside it: the other formulas that it names, its terms and what it adds
abbrev pub told_by : Rule → Tree → List Tree → List Tree → Sides → Type 0
told_by (LeftSide k) f gs ts ss = (l : Left) × (left_side f ≡ Some l) × (ss ≡ Alone (l.right ∷ []))
told_by (DeniedLeftSide k) f gs ts ss = (a : Tree) × (l : Left) × (f ≡ not_ a) × (left_side a ≡ Some l) × (ss ≡ Alone (not_ l.right ∷ []))
told_by (Rewritten k) f gs ts ss = (r : Rewrite) × (rewrite_of r.from ≡ Some r) × (ts ≡ r.from ∷ r.to ∷ []) × IsClosed r.from × IsClosed r.to
told_by SameMembers f gs ts ss = (s : Tree) × (t : Tree) × (f ≡ eq_ s t) × (ss ≡ Alone (same_members s t ∷ []))
told_by OtherFunction f gs ts ss = IsOne gs × IsOne ts
told_by Replaced f gs ts ss = IsOne gs × IsTwo ts
told_by Conditional f gs ts ss = (u : Tree) × (ts ≡ u ∷ []) × IsClosed u
told_by Application f gs ts ss = (u : Tree) × (ts ≡ u ∷ []) × IsClosed u
told_by Members f gs ts ss = (s : Tree) × (t : Tree) × (f ≡ not_ (eq_ s t)) × (ss ≡ Alone (not_ (same_members s t) ∷ []))
told_by Instance f gs ts ss = (t : Tree) × (ts ≡ t ∷ []) × IsClosed t
told_by Spare f gs ts ss = (t : Tree) × (ts ≡ t ∷ []) × IsClosed t
told_by TakenUp f gs ts ss = IsOne ts
told_by _ f gs ts ss = Unit {0}

-- so for a step
abbrev pub ToldStep : Step → Type 0
ToldStep s = told_by s.rule (head_of s.named) (tail_of s.named) s.terms s.sides

-- a step names a formula, and all that it names is closed
pub record Told (s : Step) : Type 0 where
  pub formula : Tree
  pub others : List Tree
  pub names : s.named ≡ formula ∷ others
  pub closed : AllClosed s.named
  pub told : ToldStep s

-- so for the steps of a search
abbrev pub MoveTold : Move → Type 0
MoveTold (Shuts c next) = Unit {0}
MoveTold (Applied r xs ys) = Told r.step

abbrev pub MovesTold : List Move → Type 0
MovesTold [] = Unit {0}
MovesTold (m ∷ ms) = MoveTold m × MovesTold ms
