use Rattle.std.proofs.Common.{[], length, ◌-◌, drop, List}
use Rattle.core_expr.specs.Tree.{Tree}
use Rattle.term_bank.specs.Banks.{IsDistinct}
use Rattle.search_definition.specs.Branches.{Branch}
use Rattle.branch_values.specs.Plans.{ArePlanned, indices}
use Rattle.branch_values.specs.Memos.{HaveValues, HaveGrounds}
use Rattle.branch_values.proofs.grounds.grounds_of.Given as goal

abbrev pub invariant-loop-k : goal.invariant-loop-k
invariant-loop-k l =
    (ts : List Tree) (b : Branch) → IsDistinct ts → ArePlanned ts b l.tasks [] → HaveValues ts b l.values.entries (indices l.tasks) → HaveGrounds ts b l.grounds.entries (indices (drop (length l.tasks - l.k) l.tasks))
