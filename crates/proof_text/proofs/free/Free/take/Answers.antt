use Rattle.std.proofs.Common.{ap, ◌∙◌, arith}
use Rattle.proof_text.specs.Readers.{is_free}
use Rattle.proof_text.proofs.FreeLaws.{count_back}
use Rattle.proof_text.proofs.free.Free.take.Goals as goal

pub overflow_sub-self : goal.overflow_sub-self
overflow_sub-self c = omega (arith, count_back _ _ _ c.args.step c.self.invariant (ap (λ f. is_free f c.args.step) c.self.view_is ∙ c.requires) c.set.ensures)

pub invariant_of-self : goal.invariant_of-self
invariant_of-self c = omega (arith, count_back _ _ _ c.args.step c.self.invariant (ap (λ f. is_free f c.args.step) c.self.view_is ∙ c.requires) c.set.ensures)
