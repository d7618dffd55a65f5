use Rattle.term_bank.specs.Images.{height}
use Rattle.term_walks.specs.Walks.{IsSought}
use Rattle.term_walks.proofs.seeking.occurs.Given as goal

abbrev pub invariant-loop-i : goal.invariant-loop-i
invariant-loop-i l = IsSought l.bank l.s l.e l.todo.keys

abbrev pub decreases-loop-i : goal.decreases-loop-i
decreases-loop-i l = height l.todo.keys
