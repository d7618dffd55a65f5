use Rattle.std.proofs.Common.{◌≡◌, ◌++◌}
use Rattle.job_plan.proofs.numbering.listed.Given as goal

abbrev pub invariant-loop-job : goal.invariant-loop-job
invariant-loop-job l = record { list : l.list.items ++ l.job-iterator ≡ l.fn.jobs.keys }
