use Rattle.std.proofs.Common.{◌≡◌, ◌++◌}
use Rattle.cache_file.specs.Records.{Holds}
use Rattle.cache_file.proofs.read.keep_all.Given as goal

abbrev pub invariant-loop-read : goal.invariant-loop-read
invariant-loop-read l = record {
  rest : l.yielded ++ l.read-iterator.rest.items ≡ l.fn.reads.items;
  held : Holds l.cache l.yielded;
}
