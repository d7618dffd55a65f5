use Rattle.term_patterns.specs.Walked.{weights, IsOnWay}
use Rattle.term_patterns.proofs.abstracting.pattern.Given as goal

abbrev pub invariant-loop-task : goal.invariant-loop-task
invariant-loop-task l = IsOnWay l.fn.bank l.bank l.s l.e l.tasks.items l.images

abbrev pub decreases-loop-task : goal.decreases-loop-task
decreases-loop-task l = weights l.fn.bank l.tasks.items
