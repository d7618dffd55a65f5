use Rattle.std.proofs.Common.{◌≡◌, ◌++◌, take}
use Rattle.core_expr.specs.Rows.{raised}
use Rattle.core_expr.proofs.rows.raise.Given as goal

abbrev pub invariant-loop-row : goal.invariant-loop-row
invariant-loop-row l = l.out ≡ l.fn.out ++ raised l.depth (take l.row-index l.by)
