use Rattle.std.proofs.Common.{◌≡◌, take}
use Rattle.core_expr.specs.Rename.{filled}
use Rattle.core_expr.proofs.rename.fill.Given as goal

abbrev pub invariant-loop-node : goal.invariant-loop-node
invariant-loop-node l = l.out.items ≡ filled l.rows l.starts l.row (take l.node-index l.body)
