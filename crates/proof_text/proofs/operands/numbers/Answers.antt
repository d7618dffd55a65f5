use Rattle.std.proofs.Common.{◌-◌, refl, ap, sym, ◌∙◌, arith}
use Rattle.proof_text.specs.Reading.{number}
use Rattle.proof_text.specs.Readers.{numbers, number_test, passes, fewer}
use Rattle.proof_text.proofs.ReadLaws.{many_start, many_step}
use Rattle.proof_text.proofs.operands.numbers.Goals as goal

pub loop-i-init : goal.loop-i-init
unfolding numbers
loop-i-init c =
    many_start (λ left. number (passes (number_test c.args.tail c.args.nodes left))) fewer _ _ _ c.args.count c.args.count _ _ (omega arith) (omega arith) c.new-items.ensures refl

pub loop-i-preserved : goal.loop-i-preserved
loop-i-preserved c =
    many_step (λ left. number (passes (number_test c.args.tail c.args.nodes left))) fewer _ _ _ _ _ (c.args.count - c.loop-i.i) _ _ _ _ (omega (arith, c.loop-i-test.true)) (omega arith) c.in_ok-push.ensures.ok c.loop-i.invariant (ap (λ t. number (passes t) c.loop-i.cursor) (sym c.number_test.ensures) ∙ c.in_ok-item.ensures)
