use Rattle.std.proofs.Common.{◌≡◌, ◌++◌, ◌∷◌, [], drop}
use Rattle.text_writer.specs.declared.task.Task.TheVariants.{Finish}
use Rattle.text_writer.specs.Tasks.{visits}
use Rattle.text_writer.proofs.task.wait_for.Given as goal

abbrev pub invariant-loop-k : goal.invariant-loop-k
invariant-loop-k l = l.tasks.items ≡ (l.fn.tasks.items ++ Finish l.i ∷ []) ++ visits (drop l.k l.premises)
