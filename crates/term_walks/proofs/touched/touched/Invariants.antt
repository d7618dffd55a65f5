use Rattle.term_bank.specs.Images.{height}
use Rattle.term_walks.specs.Walks.{IsWalk}
use Rattle.term_walks.proofs.touched.touched.Given as goal

abbrev pub invariant-loop-i : goal.invariant-loop-i
invariant-loop-i l = IsWalk l.bank l.images.entries l.e l.done.items l.todo.keys

abbrev pub decreases-loop-i : goal.decreases-loop-i
decreases-loop-i l = height l.todo.keys
