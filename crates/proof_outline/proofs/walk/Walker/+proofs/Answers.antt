use Rattle.std.proofs.Common.{map, sym, ap, subst, ◌∙◌}
use Rattle.plain_syntax.specs.Syntax.{fact_of}
use Rattle.proof_outline.specs.Outline as spec
use Rattle.proof_outline.specs.Visits.{IsStop, Does, each_step}
use Rattle.proof_outline.proofs.Proofs.{by-walk, other-walk, err-steps, ok-steps}
use Rattle.proof_outline.proofs.walk.Walker.+proofs.Goals as goal

pub proof-returns-in_err-steps-in-Steps : goal.proof-returns-in_err-steps-in-Steps
proof-returns-in_err-steps-in-Steps t c =
    let stopped = c.in_err-steps-in-Steps.ensures in
    err-steps c.args.proof.now c.in-Steps.steps c.args.self.now c.steps.new.self c.from_residual.result c.in_err-steps-in-Steps.field-0.0 c.in-Steps.is c.from_residual.ensures.1
    (subst (λ n. IsStop (each_step n c.in-Steps.steps c.args.self.now) c.in_err-steps-in-Steps.field-0.0) c.next-first.ensures (subst (λ ss. IsStop (each_step c.next-first.result ss c.args.self.now) c.in_err-steps-in-Steps.field-0.0) c.as_slice-in-Steps.ensures stopped))

pub proof-returns-in-By : goal.proof-returns-in-By
proof-returns-in-By t c =
    subst (λ d. Does d c.facts.result c.facts.new.self)
    (ap (λ fs. spec.facts_names (map fact_of fs) c.args.self.now) c.as_slice.ensures ∙ sym (by-walk c.args.proof.now _ _ _ _ c.args.self.now c.in-By.is)) c.facts.ensures

pub proof-returns-in_ok-steps-in-Steps : goal.proof-returns-in_ok-steps-in-Steps
proof-returns-in_ok-steps-in-Steps t c =
    ok-steps c.args.proof.now c.in-Steps.steps c.args.self.now c.steps.new.self c.leave.new.self c.mark-mark.result c.in-Steps.is
    ((λ i. each_step (sym c.next-first.ensures i) (sym c.as_slice-in-Steps.ensures i) c.args.self.now) ∙ c.in_ok-steps-in-Steps.ensures) c.mark-mark.ensures c.leave.ensures

pub proof-returns-in_default : goal.proof-returns-in_default
proof-returns-in_default t c = other-walk c.args.proof.now c.args.self.now c.in_default.not-By c.in_default.not-Steps
