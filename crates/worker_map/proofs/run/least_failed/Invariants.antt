use Rattle.worker_map.specs.Stops.{NoneFailed}
use Rattle.worker_map.proofs.run.least_failed.Given as goal

abbrev pub invariant-loop-number : goal.invariant-loop-number
invariant-loop-number l = NoneFailed l.number l.verdicts
