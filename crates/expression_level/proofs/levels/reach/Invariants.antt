use Rattle.std.proofs.Common.{◌≡◌, ◌+◌, ◌-◌, length}
use Rattle.expression_level.specs.Store.{levels_of, AllClosed}
use Rattle.expression_level.proofs.levels.reach.Given as goal

abbrev pub invariant-loop-known : goal.invariant-loop-known
invariant-loop-known l = record {
  same : levels_of l.known.items ≡ levels_of l.fn.known.items;
  closed : AllClosed l.fn.known.items → AllClosed l.known.items;
}

abbrev pub decreases-loop-known : goal.decreases-loop-known
decreases-loop-known l = l.number + 1 - length l.known.items
