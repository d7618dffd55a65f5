-- What a rule adds, with classes, and what was found by it.
use Rattle.std.specs.Prelude.{◌≡◌, ℕ, ◌<◌, true, Some, List, length}
use Rattle.core_expr.specs.Tree.{Tree}
use Rattle.branch_state.specs.declared.parts.New.{New}
use Rattle.branch_state.specs.Shown.{Placed, placed_at}
use Rattle.tableau_search.specs.declared.finder.Found.{Found}
use Rattle.tableau_search.specs.Entries.{new_trees}
use Rattle.tableau_search.specs.Found.{IsFound, AreUsable}
use Rattle.formula_rules.specs.declared.given.Given.{Given}
use Rattle.formula_rules.specs.Answers.{trees_at, step_of}

-- these formulas with their classes
pub record AreNews (ts : List Tree) (is : List ℕ) (ns : List New) : Type 0 where
  pub trees : new_trees ts ns ≡ trees_at ts is
  pub usable : AreUsable ts ns

-- what was found is this step at the entry, if that is live
abbrev pub IsFoundAt : List Tree → ℕ → Given → Found → Type 0
IsFoundAt ts i g f = (es : List Placed) → i < length es → (placed_at es i).live ≡ true → IsFound ts es (Some (record { entry = i; step = step_of ts g })) f
