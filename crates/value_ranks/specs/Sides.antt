-- The values of a side of a splitting.
use Rattle.std.specs.Prelude.{◌≡◌, ℕ, ◌<◌, true, false, Option, Some, None, List, length}
use Rattle.core_expr.specs.Tree.{Tree}
use Rattle.term_bank.specs.Banks.{tree_at}
use Rattle.search_definition.specs.Branches.{Branch}
use Rattle.search_definition.specs.Values.{truth, grounds, all_yes, some_no, first_no}
use Rattle.branch_values.specs.declared.value.Value.{Value}
use Rattle.branch_values.specs.declared.value.Value.TheVariants as value
use Rattle.value_ranks.specs.declared.side.Side.{Side}

-- the first of the formulas that is false on the branch, if one is
abbrev pub IsFirstNo : List Tree → Branch → List Tree → Option ℕ → Type 0
IsFirstNo ts b fs None = some_no (truth b) fs ≡ false
IsFirstNo ts b fs (Some k) = (some_no (truth b) fs ≡ true) × (k < length ts) × (first_no b fs ≡ grounds b (tree_at ts k))

-- whether all of the formulas are true, and the first that is false
pub record IsSide (ts : List Tree) (b : Branch) (fs : List Tree) (s : Side) : Type 0 where
  pub all : all_yes (truth b) fs ≡ s.all_true
  pub first : IsFirstNo ts b fs s.first_false

-- the side with one formula more before the others
abbrev pub side_with : Side → ℕ → Value → Side
side_with s f value.Yes = s
side_with s f value.No = record { all_true = false; first_false = Some f }
side_with s f value.Unknown = record { all_true = false; first_false = s.first_false }
