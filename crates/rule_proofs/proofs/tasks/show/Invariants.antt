use Rattle.rule_proofs.specs.Shown.{weights, IsShowing}
use Rattle.rule_proofs.proofs.tasks.show.Given as goal

abbrev pub invariant-loop-task : goal.invariant-loop-task
invariant-loop-task l = IsShowing l.fn.w l.w l.grounds l.f l.tasks.items l.values.items

abbrev pub decreases-loop-task : goal.decreases-loop-task
decreases-loop-task l = weights l.fn.w.trees l.tasks.items
