use Rattle.std.proofs.Common.{◌≡◌, ◌++◌, drop}
use Rattle.leaf_jobs.specs.Filling.{shown_all}
use Rattle.leaf_jobs.proofs.show.shown_all.Given as goal

abbrev pub invariant-loop-i : goal.invariant-loop-i
invariant-loop-i l = l.found.items ++ shown_all l.scoped.entries l.verdicts (drop l.i l.names) (drop l.i l.jobs) ≡ shown_all l.scoped.entries l.verdicts l.names l.jobs
