-- Reasons for which a formula has a value as a whole.
use Rattle.std.specs.Prelude.{◌≡◌, ℕ, Bool, true, false, Option, Some, None, List, [], ◌∷◌}
use Rattle.core_expr.specs.Tree.{Tree, eq_}
use Rattle.core_expr.specs.Nodes.{AreBelow}
use Rattle.term_bank.specs.Banks.{HasTree}
use Rattle.search_definition.specs.Branches.{Branch}
use Rattle.search_definition.specs.Values.{Truth, whole, truth_by, grounds_by, mirror}
use Rattle.search_definition.specs.Values.Whole.{Undecided}
use Rattle.formula_rules.specs.Answers.{trees_at}
use Rattle.std.specs.Prelude.{length}
use Rattle.branch_values.specs.declared.value.Value.TheVariants.{Yes, No}
use Rattle.branch_values.specs.declared.reason.Reason.{Reason}
use Rattle.branch_values.specs.Judging.{truth_of}

-- the formula is an equation
abbrev pub is_equation : Tree → Bool
is_equation (eq_ s t) = true
is_equation _ = false

-- an index of the formula's mirror, where it is an equation
abbrev pub IsMirror : List Tree → Tree → Option ℕ → Type 0
IsMirror ts t None = is_equation t ≡ false
IsMirror ts t (Some k) = (is_equation t ≡ true) × HasTree ts k (mirror t)

-- an index of this tree where the test holds, and none where it does not
abbrev pub Stood : List Tree → Bool → Tree → Option ℕ → Type 0
Stood ts b t None = b ≡ false
Stood ts b t (Some k) = (b ≡ true) × HasTree ts k t

-- what a reason rests on
abbrev pub basis_list : Option ℕ → List ℕ
basis_list None = []
basis_list (Some k) = k ∷ []

abbrev pub reason : Bool → Option ℕ → Reason
reason true g = record { value = Yes; basis = g }
reason false g = record { value = No; basis = g }

-- The first reason that fits the formula at i: whether it stands; is true by itself; its mirror that stands;
-- its Not that stands; whether it is false by itself; and the Not of its mirror that stands.
abbrev pub first_reason : Bool → Bool → Option ℕ → Option ℕ → Bool → Option ℕ → ℕ → Option Reason
first_reason true p m d f n i = Some (reason true (Some i))
first_reason false true m d f n i = Some (reason true None)
first_reason false false (Some k) d f n i = Some (reason true (Some k))
first_reason false false None (Some k) f n i = Some (reason false (Some k))
first_reason false false None None true n i = Some (reason false None)
first_reason false false None None false (Some k) i = Some (reason false (Some k))
first_reason false false None None false None i = None

-- the reason gives the value and the grounds of the formula as a whole
pub record Gives (ts : List Tree) (b : Branch) (t : Tree) (r : Reason) : Type 0 where
  pub value : (y : Truth) → truth_by (whole b t) y ≡ truth_of r.value
  pub grounds : (gs : List Tree) → grounds_by (whole b t) t gs ≡ trees_at ts (basis_list r.basis)
  pub below : AreBelow (length ts) (basis_list r.basis)

-- the reason for which the formula has a value as a whole, if it has one
abbrev pub IsReason : List Tree → Branch → Tree → Option Reason → Type 0
IsReason ts b t None = whole b t ≡ Undecided
IsReason ts b t (Some r) = Gives ts b t r
