use Rattle.std.proofs.Common.{◌≡◌, ◌++◌, drop}
use Rattle.theorem_leaves.specs.Definitions as own
use Rattle.theorem_leaves.proofs.home.Home.+proofs.Given as goal

abbrev pub invariant-push_steps-loop-step : goal.invariant-push_steps-loop-step
invariant-push_steps-loop-step l = l.found.items ++ own.in_each l.self (drop l.step-index l.steps) ≡ l.fn.found.items ++ own.in_each l.self l.steps
