use Rattle.std.proofs.Common.{◌≡◌, true, take}
use Rattle.core_expr.specs.Rows.{rows_scoped}
use Rattle.core_expr.proofs.rows.are_rows_scoped.Given as goal

abbrev pub invariant-loop-row : goal.invariant-loop-row
invariant-loop-row l = rows_scoped l.n (take l.row-index l.rows) ≡ true
