use Rattle.seq_calculus.proofs.Listed.{equals_step, equals_all}
use Rattle.seq_calculus.proofs.tuple.equations_with.Goals as goal

pub loop-item-preserved : goal.loop-item-preserved
loop-item-preserved c = equals_step c.args.t.now c.args.items.now c.loop-item.item-index c.item-item.result c.in_ok-pair.field-0 _ _ c.loop-item-test.true c.item-item.is c.loop-item.invariant c.in_ok-pair.ensures c.in_ok-push.ensures.items

pub returns : goal.returns
returns c = equals_all c.args.t.now c.args.items.now _ c.loop-item.item-index c.loop-item-test.false c.loop-item.invariant
