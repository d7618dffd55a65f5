use Rattle.std.proofs.Common.{◌≡◌, ◌++◌}
use Rattle.std.specs.List.{AllByRecursion}
use Rattle.cache_file.specs.Written.{IsWritten, file_of, proved_jobs}
use Rattle.cache_file.proofs.write.write_cache.Given as goal

abbrev pub invariant-loop-job : goal.invariant-loop-job
invariant-loop-job l = record {
  text : l.file.items ++ file_of (proved_jobs l.job-iterator.a.rest.now l.job-iterator.b.rest.now) ≡ file_of (proved_jobs l.jobs l.verdicts);
  written : AllByRecursion IsWritten (proved_jobs l.job-iterator.a.rest.now l.job-iterator.b.rest.now) → AllByRecursion IsWritten (proved_jobs l.jobs l.verdicts);
}
