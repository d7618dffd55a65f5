use Rattle.std.proofs.Common.{arith}
use Rattle.proof_text.specs.Reading.{number}
use Rattle.proof_text.specs.Readers.{is_free, without}
use Rattle.proof_text.proofs.ReadLaws.{many_step}
use Rattle.proof_text.proofs.FreeLaws.{without_step}
use Rattle.proof_text.proofs.steps.premises.Goals as goal

pub loop-i-preserved : goal.loop-i-preserved
loop-i-preserved c = record {
  going = many_step (λ free. number (is_free free)) without _ _ _ _ _ c.loop-i.free _ _ _ _ (omega (arith, c.loop-i-test.true)) c.in_ok-item.ensures.free c.in_ok-push.ensures.ok c.loop-i.invariant.going c.in_ok-item.ensures.reads;
  free = without_step c.args.free.now _ _ _ _ _ c.loop-i.invariant.free c.in_ok-item.ensures.free c.in_ok-push.ensures.ok;
}
