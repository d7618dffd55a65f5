use Rattle.core_expr.proofs.FlatLaws.{replace_step}
use Rattle.core_expr.proofs.rows.replace_all.Goals as goal

pub loop-row-preserved : goal.loop-row-preserved
loop-row-preserved c = replace_step c.args.rows.now c.args.by.now c.loop-row.row-index c.row-item.result _ _ c.loop-row-test.true c.row-item.is c.loop-row.invariant c.in_ok-replace_one.ensures
