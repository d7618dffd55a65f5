use Rattle.core_expr.proofs.RenameLaws.{fill_step}
use Rattle.core_expr.proofs.rename.fill.Goals as goal

pub loop-node-preserved : goal.loop-node-preserved
loop-node-preserved c =
    fill_step c.args.rows.now c.args.starts.now c.args.row.now c.args.body.now c.loop-node.node-index c.node-item.result _ _ c.loop-node-test.true c.node-item.is c.loop-node.invariant c.in_ok-fill_one.ensures
