use Rattle.std.proofs.Common.{◌≡◌, drop, []}
use Rattle.core_expr.specs.Rename.{named, renamed}
use Rattle.core_expr.proofs.rename.rename_rows.Given as goal

abbrev pub invariant-loop-row : goal.invariant-loop-row
invariant-loop-row l = renamed (named l.by) (drop l.row-index l.rows) l.out.items l.starts.items ≡ renamed (named l.by) l.rows [] []
