use Rattle.seq_translate.specs.States.{IsRun}
use Rattle.seq_translate.proofs.run.run.Given as goal

abbrev pub invariant-loop-done : goal.invariant-loop-done
invariant-loop-done g l = IsRun l.fn.w.trees l.turns l.marks.items l.seconds.items l.w l.done
