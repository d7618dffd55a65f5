use Rattle.std.proofs.Common.{◌≡◌, ◌+◌, drop}
use Rattle.theorem_leaves.specs.Visits.{count_all}
use Rattle.theorem_leaves.proofs.number.+counts.Given as goal

abbrev pub invariant-number_after_all-loop-step : goal.invariant-number_after_all-loop-step
invariant-number_after_all-loop-step l = l.number + count_all (drop l.step-index l.steps) ≡ l.first + count_all l.steps
