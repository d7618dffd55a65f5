use Rattle.std.proofs.Common.{sym, ◌∙◌, arith}
use Rattle.std.proofs.lemmas.Bool.{eqb-true}
use Rattle.tla_lexer.proofs.Headers.{find-here, find-later, none-next, find-end, at-rest}
use Rattle.tla_lexer.proofs.header.find.Goals as goal

pub returns-in-Some-clause-value : goal.returns-in-Some-clause-value
returns-in-Some-clause-value c =
    let bytes = c.args.bytes.now in
    let at = c.loop-at.at in
    sym (c.loop-at.invariant.value ∙ find-here bytes at c.in-Some.header c.loop-at-test.true (at-rest bytes at _ c.in_ok-header.ensures.value ∙ c.in-Some.is))

pub loop-at-preserved : goal.loop-at-preserved
loop-at-preserved c =
    let bytes = c.args.bytes.now in
    let at = c.loop-at.at in
    let none = at-rest bytes at _ c.in_ok-header.ensures.value ∙ c.in_default.is in
    record { value = c.loop-at.invariant.value ∙ find-later bytes at c.loop-at-test.true none; none = (λ dash. none-next bytes at c.loop-at-test.true none (eqb-true _ 45 dash)); within = omega arith }

pub returns-clause-value : goal.returns-clause-value
returns-clause-value c = sym (c.loop-at.invariant.value ∙ find-end c.args.bytes.now c.loop-at.at c.loop-at-test.false)
