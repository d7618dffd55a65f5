use Rattle.std.proofs.Common.{◌≡◌, ◌++◌, take}
use Rattle.std.specs.List.{flat_map}
use Rattle.seq_calculus.specs.Lists.{written_step}
use Rattle.text_writer.proofs.step.write_steps.Given as goal

abbrev pub invariant-loop-step : goal.invariant-loop-step
invariant-loop-step l = l.list.items ≡ l.fn.list.items ++ flat_map written_step (take l.step-index l.steps)
