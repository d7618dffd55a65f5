use Rattle.std.proofs.Common.{◌≡◌, drop, fold}
use Rattle.module_scope.specs.Visits.{step_names}
use Rattle.module_scope.specs.Known.{book_of}
use Rattle.module_scope.proofs.walker.Walker.+proofs.Given as goal

abbrev pub invariant-steps-loop-step : goal.invariant-steps-loop-step
invariant-steps-loop-step l = fold step_names (book_of l.fn.self) l.steps ≡ fold step_names (book_of l.self) (drop l.step-index l.steps)
