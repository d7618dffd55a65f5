use Rattle.expression_level.proofs.Puts.{total-next, total-ends}
use Rattle.expression_level.proofs.known.total.Goals as goal

pub loop-weight-preserved : goal.loop-weight-preserved
loop-weight-preserved c = total-next _ c.loop-weight.all c.join.new.self c.in-Some.weight c.loop-weight.weight-iterator.rest.items c.next.new.self.rest.items c.loop-weight.invariant (c.in-Some.ensures.steps.0) c.in_ok-join.ensures

pub returns : goal.returns
returns c = total-ends _ c.loop-weight.all c.loop-weight.weight-iterator.rest.items c.loop-weight.weight-iterator.rest.len c.loop-weight.invariant (c.loop-weight.weight-iterator.rest.ok.0) (c.in-None.ensures.steps.0)
