use Rattle.std.proofs.Common.{length, ◌-◌, ◌≡◌, ◌≤◌, take}
use Rattle.tla_io.specs.Told.{with_more}
use Rattle.tla_io.proofs.sink.write_whole.Given as goal

abbrev pub invariant-loop-done : goal.invariant-loop-done
invariant-loop-done g l = record {
  within : l.done ≤ length l.bytes;
  so_far : g.K.Sink.taken l.out ≡ with_more (g.K.Sink.taken l.initial.out) (take l.done l.bytes);
  count : g.K.Sink.count l.out ≡ g.K.Sink.count l.initial.out;
  nothing : l.done ≡ 0 → l.out ≡ l.initial.out;
}

abbrev pub decreases-loop-done : goal.decreases-loop-done
decreases-loop-done g l = length l.bytes - l.done
