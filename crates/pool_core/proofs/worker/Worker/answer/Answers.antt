use Rattle.std.proofs.Common.{refl, subst, arith}
use Rattle.pool_core.specs.States.{Answered}
use Rattle.pool_core.proofs.Moving.{answers, written}
use Rattle.pool_core.proofs.worker.Worker.answer.Goals as goal

pub returns : goal.returns
returns c =
    answers _ _ _ _ c.answer.new.marks
    (subst (λ ms. Answered c.args.job c.answer.result ms c.answer.new.marks) c.as_mut_slice.ensures.value c.answer.ensures)
    (written c.args.self.now.drawn.len c.answer.new.marks _ (omega (arith, c.args.self.now.drawn.ok.0, c.answer.auto.marks, c.as_mut_slice.ensures.len))) refl refl refl refl
