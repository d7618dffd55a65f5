use Rattle.std.proofs.Common.{◌≡◌, ◌≤◌, ◌+◌, ◌-◌, ◌++◌, length, drop}
use Rattle.search_definition.specs.Needs.{union}
use Rattle.search_loop.proofs.sets.union.Given as goal

abbrev pub invariant-loop-i : goal.invariant-loop-i
invariant-loop-i l =
    record {
      lefts : l.i ≤ length l.left;
      rights : l.j ≤ length l.right;
      both : l.both.items ++ union (drop l.i l.left) (drop l.j l.right) ≡ union l.left l.right;
    }

abbrev pub decreases-loop-i : goal.decreases-loop-i
decreases-loop-i l = (length l.left - l.i) + (length l.right - l.j)
