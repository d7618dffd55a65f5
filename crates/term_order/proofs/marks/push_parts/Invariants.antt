use Rattle.std.proofs.Common.{◌≡◌, ◌-◌, length, drop}
use Rattle.term_order.specs.Walks.{pushed}
use Rattle.term_order.proofs.marks.push_parts.Given as goal

abbrev pub invariant-loop-k : goal.invariant-loop-k
invariant-loop-k l = l.stack.items ≡ pushed l.fn.stack.items (drop (length l.parts - l.k) l.parts)
