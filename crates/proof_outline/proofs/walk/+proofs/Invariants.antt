use Rattle.std.proofs.Common.{◌≡◌, drop}
use Rattle.proof_outline.specs.Visits as visit
use Rattle.proof_outline.proofs.walk.+proofs.Given as goal

abbrev pub invariant-have_step-loop-step : goal.invariant-have_step-loop-step
invariant-have_step-loop-step l = visit.any_step (l.level, l.label) l.steps ≡ visit.any_step (l.level, l.label) (drop l.step-index l.steps)
