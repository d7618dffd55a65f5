use Rattle.std.proofs.Common.{◌≡◌, ◌++◌, take}
use Rattle.core_expr.specs.Rename.{lifted}
use Rattle.core_expr.proofs.lifting.lift.Given as goal

abbrev pub invariant-loop-row : goal.invariant-loop-row
invariant-loop-row l = l.out.items ≡ l.fn.out.items ++ lifted l.rise l.by l.depth (take l.row-index l.rows)
