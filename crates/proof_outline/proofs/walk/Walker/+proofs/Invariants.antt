use Rattle.std.proofs.Common.{◌≡◌, drop}
use Rattle.proof_outline.specs.Visits as visit
use Rattle.proof_outline.proofs.walk.Walker.+proofs.Given as goal

abbrev pub invariant-steps-loop-step : goal.invariant-steps-loop-step
invariant-steps-loop-step l = visit.each_step l.first l.steps l.fn.self ≡ visit.each_step l.first (drop l.step-index l.steps) l.self
