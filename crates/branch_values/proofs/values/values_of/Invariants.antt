use Rattle.std.proofs.Common.{[], length, ◌-◌, drop, List}
use Rattle.core_expr.specs.Tree.{Tree}
use Rattle.search_definition.specs.Branches.{Branch}
use Rattle.branch_values.specs.Plans.{ArePlanned, indices}
use Rattle.branch_values.specs.Memos.{HaveValues}
use Rattle.branch_values.proofs.values.values_of.Given as goal

abbrev pub invariant-loop-k : goal.invariant-loop-k
invariant-loop-k l = (ts : List Tree) (b : Branch) → ArePlanned ts b l.tasks [] → HaveValues ts b l.values.entries (indices (drop (length l.tasks - l.k) l.tasks))
