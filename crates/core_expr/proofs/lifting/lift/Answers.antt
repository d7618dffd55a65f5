use Rattle.core_expr.proofs.LiftLaws.{lift_step}
use Rattle.core_expr.proofs.lifting.lift.Goals as goal

pub loop-row-preserved : goal.loop-row-preserved
loop-row-preserved c =
    lift_step c.args.rise c.args.by c.args.depth c.args.rows.now c.loop-row.row-index c.row-item.result c.in_ok-lift_row.field-0 _ _ _ c.loop-row-test.true c.row-item.is c.loop-row.invariant c.in_ok-lift_row.ensures c.in_ok-push.ensures.items
