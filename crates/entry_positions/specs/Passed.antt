-- What a position says.
use Rattle.std.specs.Prelude.{◌≡◌, ℕ, ◌≤◌, Bool, Option, None, List, length, take}
use Rattle.core_expr.specs.Tree.{Tree}
use Rattle.search_definition.specs.Branches.{Branch, closing, add, used}
use Rattle.search_definition.specs.Rules.{Step}
use Rattle.search_definition.specs.Watches.{NoneBefore}
use Rattle.branch_state.specs.Shown.{Placed}
use Rattle.tableau_search.specs.Entries.{branch_of}

-- a formula that the rule does not fit it does not fit after an addition either
abbrev pub Shrinks : (Branch → Tree → Option Step) → Type 0
Shrinks rule = (b : Branch) (f g : Tree) → rule b g ≡ None → rule (add b f) g ≡ None

-- using an entry does not change what the rule does
abbrev pub IsSteady : (Branch → Tree → Option Step) → Type 0
IsSteady rule = (stays rises : Bool) (b : Branch) (i : ℕ) (g : Tree) → rule (used stays rises b i) g ≡ rule b g

-- no live entry before the position is one that the rule fits
pub record IsPassed (rule : Branch → Tree → Option Step) (ts : List Tree) (es : List Placed) (p : ℕ) : Type 0 where
  pub within : p ≤ length es
  pub none : NoneBefore (rule (branch_of ts es)) p (branch_of ts es)

-- the entries before the position do not close
pub record IsOpen (ts : List Tree) (es : List Placed) (p : ℕ) : Type 0 where
  pub within : p ≤ length es
  pub none : closing (branch_of ts (take p es)) ≡ None
