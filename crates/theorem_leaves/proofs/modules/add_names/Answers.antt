use Rattle.theorem_leaves.proofs.Reached.{names-step}
use Rattle.theorem_leaves.proofs.modules.add_names.Goals as goal

pub loop-name-preserved : goal.loop-name-preserved
loop-name-preserved c =
    names-step c.args.names.now c.args.more.now c.loop-name.names c.add_name.new.names c.loop-name.name-index c.name-item.result c.bytes.result.now
    c.loop-name.invariant c.in_ok-add_name.ensures c.bytes.ensures c.loop-name-test.true c.name-item.is
