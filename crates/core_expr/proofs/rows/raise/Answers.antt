use Rattle.std.proofs.Common.{rules}
use Rattle.core_expr.proofs.FlatLaws.{raise_step}
use Rattle.core_expr.proofs.rows.raise.Goals as goal

pub loop-row-preserved : goal.loop-row-preserved
loop-row-preserved c =
    raise_step c.args.depth c.args.by.now c.loop-row.row-index c.in-Some.deeper c.row-item.result c.in_ok-copy_row.field-0 _ _ _ c.loop-row-test.true c.row-item.is c.loop-row.invariant (search rules) c.in_ok-copy_row.ensures c.in_ok-push.ensures.ok
