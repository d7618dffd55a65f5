use Rattle.std.proofs.Common.{◌≡◌, ◌≤◌, take, length}
use Rattle.known_facts.specs.Shown.{entries_of}
use Rattle.known_facts.specs.Grown.{restored}
use Rattle.known_facts.proofs.known.restore_states.Given as goal

abbrev pub invariant-loop-i : goal.invariant-loop-i
invariant-loop-i l = record {
  restored : entries_of l.known.items ≡ restored (take l.i l.states) (take (length l.states) (entries_of l.fn.known.items));
  short : length l.known.items ≤ length l.states;
  same : l.i-end ≡ length l.known.items;
}
