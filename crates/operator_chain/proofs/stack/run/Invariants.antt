use Rattle.std.proofs.Common.{◌≡◌, length}
use Rattle.operator_chain.specs.Machine.{State, Shows, moved_all, start}
use Rattle.operator_chain.proofs.stack.run.Given as goal

abbrev pub invariant-loop-piece : goal.invariant-loop-piece
invariant-loop-piece l = (s : State) × Shows s l.stack × (moved_all start l.fn.pieces.items ≡ moved_all s l.pieces.items)

abbrev pub decreases-loop-piece : goal.decreases-loop-piece
decreases-loop-piece l = length l.pieces.items
