use Rattle.std.proofs.Common.{◌≡◌, take}
use Rattle.core_expr.specs.Rows.{replaced}
use Rattle.core_expr.proofs.rows.replace_all.Given as goal

abbrev pub invariant-loop-row : goal.invariant-loop-row
invariant-loop-row l = l.out ≡ replaced (take l.row-index l.rows) l.by
