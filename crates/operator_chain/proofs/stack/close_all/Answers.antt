use Rattle.std.proofs.Common.{sym, ◌∙◌, ap}
use Rattle.operator_chain.specs.Tree.{node_of}
use Rattle.operator_chain.proofs.StackLemmas.{close, all-closed}
use Rattle.operator_chain.proofs.stack.close_all.Goals as goal

pub loop-part-preserved : goal.loop-part-preserved
loop-part-preserved c = λ p k. (
    let i = c.loop-part.invariant p k in
    let r = close c.loop-part.parts c.pop.new.self c.in-Some.part c.loop-part.last i.0 c.in-Some.ensures i.1 in
    (r.0, rw c.in_ok-last.ensures r.1, i.2 ∙ r.2))

pub returns : goal.returns
returns c = λ p k. (
    let i = c.loop-part.invariant p k in
    all-closed c.loop-part.parts c.loop-part.last i.0 c.in_default.ensures.0 i.1 ∙ ap node_of (sym i.2))
