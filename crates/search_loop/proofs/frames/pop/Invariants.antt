use Rattle.std.proofs.Common.{◌≡◌, length}
use Rattle.search_loop.specs.Stacks.{stack_of, popped, Falls, AreFalling}
use Rattle.search_loop.proofs.frames.pop.Given as goal

abbrev pub invariant-loop-frame : goal.invariant-loop-frame
invariant-loop-frame l =
    record {
      same : popped (stack_of l.frames.items) l.needed.items ≡ popped (stack_of l.fn.frames.items) l.fn.needed.items;
      falls : Falls l.needed.items;
      frames : AreFalling (stack_of l.frames.items);
    }

abbrev pub decreases-loop-frame : goal.decreases-loop-frame
decreases-loop-frame l = length l.frames.items
