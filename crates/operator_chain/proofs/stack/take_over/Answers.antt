use Rattle.std.proofs.Common.{◌≡◌, true, false, nat_lt, ap, ◌∙◌, sym}
use Rattle.std.proofs.lemmas.Bool.{lt-ltb, le-ltb}
use Rattle.operator_chain.specs.Machine.{operator_in}
use Rattle.operator_chain.proofs.StackLemmas.{turn, emptied}
use Rattle.operator_chain.proofs.stack.take_over.Goals as goal

pub loop-part-preserved : goal.loop-part-preserved
loop-part-preserved c = λ p k. (
    let i = c.loop-part.invariant p k in
    let t = turn c.args.operator.now c.loop-part.parts c.pop.new.self c.in-Some.part c.loop-part.last i.0 c.in-Some.ensures i.1 in
    let low : nat_lt c.args.operator.now.high (operator_in c.in-Some.part).low ≡ true = ap (λ n. nat_lt c.args.operator.now.high n) (sym c.low_of-low.ensures) ∙ lt-ltb _ _ c.if-operator-low.true in
    let r = t.over low in
    (r.0, rw c.in_ok-last.ensures r.1, i.2 ∙ r.2))

pub returns-then-is_same : goal.returns-then-is_same
returns-then-is_same c = λ p k. (
    let i = c.loop-part.invariant p k in
    let t = turn c.args.operator.now c.loop-part.parts c.pop.new.self c.in-Some.part c.loop-part.last i.0 c.in-Some.ensures i.1 in
    let low : nat_lt c.args.operator.now.high (operator_in c.in-Some.part).low ≡ false = ap (λ n. nat_lt c.args.operator.now.high n) (sym c.low_of-low.ensures) ∙ le-ltb _ _ c.if-operator-low.false in
    let same = sym c.is_same.ensures ∙ c.if-is_same.true in
    rw (i.2, c.in_ok-closed.ensures) (t.same low same))

pub returns-else-is_same : goal.returns-else-is_same
returns-else-is_same c = λ p k. (
    let i = c.loop-part.invariant p k in
    let t = turn c.args.operator.now c.loop-part.parts c.pop.new.self c.in-Some.part c.loop-part.last i.0 c.in-Some.ensures i.1 in
    let low : nat_lt c.args.operator.now.high (operator_in c.in-Some.part).low ≡ false = ap (λ n. nat_lt c.args.operator.now.high n) (sym c.low_of-low.ensures) ∙ le-ltb _ _ c.if-operator-low.false in
    let same = sym c.is_same.ensures ∙ c.if-is_same.false in
    rw (i.2, c.in_ok-push.ensures.ok) (t.stays low same))

pub returns : goal.returns
returns c = λ p k. (
    let i = c.loop-part.invariant p k in
    let e = c.in_default.ensures in
    rw (i.2, e.1) (emptied c.args.operator.now c.loop-part.parts c.loop-part.last i.0 e.0 i.1))
