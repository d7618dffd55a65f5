-- The ranks settle, split, term split and take up.
use Rattle.std.specs.Prelude.{Bool, true, false, not, Option, Some, None, List, [], ◌∷◌}
use Rattle.core_expr.specs.declared.head.Head.TheVariants.{True, False, Not, And, Or, Imp, Iff}
use Rattle.core_expr.specs.declared.head.Binder.TheVariants.{All, Ex}
use Rattle.core_expr.specs.Tree.{Tree, not_, and_, or_, imp_, iff_, in_, apply_, if_, all_, ex_, choose_, fun_}
use Rattle.core_expr.specs.Tree.Tree.{node, bind}
use Rattle.core_expr.specs.Put.{inst}
use Rattle.search_definition.specs.declared.rule.Rule.{Rule}
use Rattle.search_definition.specs.declared.rule.Rule.TheVariants.{TrueSide, FalseLeft, FalseRight, Disjunction, DeniedConjunction, Implication, Equivalence, DeniedEquivalence, Conditional, Application, TakenUp}
use Rattle.search_definition.specs.Terms.{either, when, or_else, after, first_at, replace}
use Rattle.search_definition.specs.Branches.{Branch, has}
use Rattle.search_definition.specs.Values.{Truth, truth, grounds, all_yes, some_no, first_no}
use Rattle.search_definition.specs.Values.Truth.{Yes, No, Unknown}
use Rattle.search_definition.specs.Rules.{Step, gives, splits}

-- A formula that can be split: the rule, and the formulas of the two sides.
pub record Splitting : Type 0 where
  pub rule : Rule
  pub left : List Tree
  pub right : List Tree

-- the splitting by this rule into these two sides
abbrev pub into : Rule → List Tree → List Tree → Option Splitting
into r ls rs = Some (record { rule = r; left = ls; right = rs })

-- how a formula is split: A \/ B, ~(A /\ B), A => B, A <=> B and ~(A <=> B)
abbrev pub splitting : Tree → Option Splitting
splitting (or_ a b) = into Disjunction (a ∷ []) (b ∷ [])
splitting (not_ (and_ a b)) = into DeniedConjunction (not_ a ∷ []) (not_ b ∷ [])
splitting (imp_ a b) = into Implication (not_ a ∷ []) (b ∷ [])
splitting (iff_ a b) = into Equivalence (a ∷ b ∷ []) (not_ a ∷ not_ b ∷ [])
splitting (not_ (iff_ a b)) = into DeniedEquivalence (a ∷ not_ b ∷ []) (not_ a ∷ b ∷ [])
splitting _ = None

abbrev pub split_as : Tree → Splitting → Option Step
split_as f s = splits s.rule (f ∷ []) [] s.left s.right

-- Rank split: the formula gives its two sides.
abbrev pub split : Tree → Option Step
split f = after (split_as f) (splitting f)

-- How values settle a splitting without splitting.
pub data Settled : Type 0 where
  OneTrue LeftFalse RightFalse : Settled

-- how the given values settle it: one side has true formulas alone; else the left has a false one; else the right has
abbrev pub settled : (Tree → Truth) → Splitting → Option Settled
settled value s =
    or_else (when (either (all_yes value s.left) (all_yes value s.right)) OneTrue) (or_else (when (some_no value s.left) LeftFalse) (when (some_no value s.right) RightFalse))

-- the step: nothing is added; or the right side, or the left, on the grounds of the first formula of the other side that is false
abbrev pub settle_as : Branch → Tree → Splitting → Settled → Option Step
settle_as b f s OneTrue = gives TrueSide (f ∷ []) [] []
settle_as b f s LeftFalse = gives FalseLeft (f ∷ first_no b s.left) [] s.right
settle_as b f s RightFalse = gives FalseRight (f ∷ first_no b s.right) [] s.left

abbrev pub settle_split : Branch → Tree → Splitting → Option Step
settle_split b f s = after (settle_as b f s) (settled (truth b) s)

-- Rank settle: a split formula whose sides have values on the branch is used without splitting.
abbrev pub settle : Branch → Tree → Option Step
settle b f = after (settle_split b f) (splitting f)

-- the formula's head is a truth constant, a connective or a quantifier
abbrev pub is_logical : Tree → Bool
is_logical (node True ns ps) = true
is_logical (node False ns ps) = true
is_logical (node Not ns ps) = true
is_logical (node And ns ps) = true
is_logical (node Or ns ps) = true
is_logical (node Imp ns ps) = true
is_logical (node Iff ns ps) = true
is_logical (bind All ps e) = true
is_logical (bind Ex ps e) = true
is_logical _ = false

-- the formula is a literal: A or ~A, where A's head is no truth constant, connective or quantifier
abbrev pub is_literal : Tree → Bool
is_literal (not_ a) = not (is_logical a)
is_literal f = not (is_logical f)

-- the answer, where f is a literal
abbrev pub of_literal : {A : Type 0} → Bool → Option A → Option A
of_literal true x = x
of_literal false x = None

-- the term is an IF, or a function constructor applied to an argument that is not said to be outside its domain
abbrev pub split_term : Branch → Tree → Option Tree
split_term b (if_ p x y) = Some (if_ p x y)
split_term b (apply_ (fun_ s e) a) = when (not (has b (not_ (in_ a s)))) (apply_ (fun_ s e) a)
split_term b _ = None

-- by the value of p: the first side where p is true, the second where it is false, both where it is not known
abbrev pub split_by : Truth → Rule → Tree → List Tree → Tree → List Tree → List Tree → Option Step
split_by Yes r f gs u ls rs = gives r (f ∷ gs) (u ∷ []) ls
split_by No r f gs u ls rs = gives r (f ∷ gs) (u ∷ []) rs
split_by Unknown r f gs u ls rs = splits r (f ∷ []) (u ∷ []) ls rs

-- the sides for the subterm u. IF p THEN x ELSE y: p with x put for it, or ~p with y. [x \in S |-> e][a]: a \in S with e[a] put for it, or ~(a \in S) with the entry still live.
abbrev pub split_at : Branch → Tree → Tree → Option Step
split_at b f (if_ p x y) =
    split_by (truth b p) Conditional f (grounds b p) (if_ p x y) (p ∷ replace (if_ p x y) x f ∷ []) (not_ p ∷ replace (if_ p x y) y f ∷ [])
split_at b f (apply_ (fun_ s e) a) =
    split_by (truth b (in_ a s)) Application f (grounds b (in_ a s)) (apply_ (fun_ s e) a)
    (in_ a s ∷ replace (apply_ (fun_ s e) a) (inst e a) f ∷ []) (not_ (in_ a s) ∷ [])
split_at b f _ = None

-- Rank term split: a literal with a closed IF or applied function constructor; the first such subterm is taken.
abbrev pub term_split : Branch → Tree → Option Step
term_split b f = of_literal (is_literal f) (after (split_at b f) (first_at (split_term b) f))

-- P is ~Q, and ~All(Q) stands on the branch
abbrev pub not_all_taken : Branch → Tree → Bool
not_all_taken b (not_ q) = has b (not_ (all_ q))
not_all_taken b _ = false

-- P, where the term is Choose(P) and the branch does not say yet whether it has a witness
abbrev pub untaken : Branch → Tree → Option Tree
untaken b (choose_ p) = when (not (either (has b (ex_ p)) (either (has b (not_ (ex_ p))) (not_all_taken b p)))) p
untaken b _ = None

abbrev pub taken_up : Tree → Tree → Option Step
taken_up f p = splits TakenUp (f ∷ []) (p ∷ []) (ex_ p ∷ inst p (choose_ p) ∷ []) (not_ (ex_ p) ∷ [])

-- Rank take up: a literal with a closed Choose(P) that was not taken up: Ex(P) with P of the chosen term, or ~Ex(P); the literal stays live.
abbrev pub take_up : Branch → Tree → Option Step
take_up b f = of_literal (is_literal f) (after (taken_up f) (first_at (untaken b) f))
