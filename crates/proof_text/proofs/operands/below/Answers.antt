use Rattle.std.proofs.Common.{refl, arith}
use Rattle.proof_text.specs.Reading.{number}
use Rattle.proof_text.specs.Readers.{passes, keep}
use Rattle.proof_text.specs.declared.cursor.Test.TheVariants.{Below}
use Rattle.proof_text.proofs.ReadLaws.{many_step}
use Rattle.proof_text.proofs.operands.below.Goals as goal

pub loop-i-preserved : goal.loop-i-preserved
loop-i-preserved c =
    many_step (λ k. number (passes (Below k))) keep _ _ _ _ _ _ c.args.bound _ _ _ (omega (arith, c.loop-i-test.true)) refl c.in_ok-push.ensures.ok c.loop-i.invariant c.in_ok-item.ensures
