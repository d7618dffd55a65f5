use Rattle.theorem_leaves.proofs.Reached.{reaches-step}
use Rattle.theorem_leaves.proofs.modules.reaches.Goals as goal

pub loop-name-preserved : goal.loop-name-preserved
loop-name-preserved c = λ ds h.
    reaches-step ds c.args.extends.now c.loop-name.names c.extend.new.names c.loop-name.name-index c.loop-name-item.result c.bytes.result.now
    (c.loop-name.invariant ds h) (c.in_ok-extend.ensures ds h) c.bytes.ensures c.loop-name-test.true c.loop-name-item.is
