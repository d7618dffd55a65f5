use Rattle.std.proofs.Common.{ap, ◌∙◌}
use Rattle.proof_outline.specs.Visits as visit
use Rattle.proof_outline.proofs.Proofs.{has-steps, has-none}
use Rattle.proof_outline.proofs.walk.+proofs.Goals as goal

pub has_step-returns-in-Steps : goal.has_step-returns-in-Steps
has_step-returns-in-Steps t c =
    c.have_step.ensures ∙ ap (visit.any_step (c.args.level, c.args.label.now)) c.as_slice.ensures ∙ has-steps _ c.args.proof.now _ c.in-Steps.is

pub has_step-returns-in_default : goal.has_step-returns-in_default
has_step-returns-in_default t c = has-none _ c.args.proof.now c.in_default.not-Steps
