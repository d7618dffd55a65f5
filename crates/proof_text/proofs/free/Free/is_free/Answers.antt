use Rattle.std.proofs.Common.{ap, ◌∙◌}
use Rattle.proof_text.specs.Readers.{is_free}
use Rattle.proof_text.proofs.FreeLaws.{past-free}
use Rattle.proof_text.proofs.free.Free.is_free.Goals as goal

pub returns-in-None : goal.returns-in-None
returns-in-None c = past-free _ c.args.step c.in-None.ensures.value ∙ ap (λ f. is_free f c.args.step) c.self.view_is
