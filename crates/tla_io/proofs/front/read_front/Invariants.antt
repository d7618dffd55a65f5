use Rattle.std.proofs.Common.{◌≤◌, ◌-◌, length}
use Rattle.std.specs.Io.KnownBytes.{Consumes}
use Rattle.tla_io.proofs.front.read_front.Given as goal

-- what was read so far stood at the front of what the reader had
abbrev pub invariant-loop-buf : goal.invariant-loop-buf
invariant-loop-buf g l = record {
  within : length l.text.items ≤ l.at_most;
  front : Consumes (g.F.Read.remaining l.initial.file) (g.F.Read.remaining l.file) l.text.items;
}

abbrev pub decreases-loop-buf : goal.decreases-loop-buf
decreases-loop-buf g l = l.at_most - length l.text.items
