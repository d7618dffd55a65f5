use Rattle.std.proofs.Common.{◌≡◌, drop}
use Rattle.std.specs.List.{list_any}
use Rattle.core_expr.specs.Flat.{rows_of}
use Rattle.obligation.specs.Nodes.{is_node_of, mentions}
use Rattle.obligation.proofs.unfolding.mentions.Given as goal

abbrev pub invariant-loop-i : goal.invariant-loop-i
invariant-loop-i l = list_any (is_node_of l.symbol) (drop l.i (rows_of l.e)) ≡ mentions l.symbol l.e
