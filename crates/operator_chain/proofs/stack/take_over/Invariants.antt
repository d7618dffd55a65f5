use Rattle.std.proofs.Common.{◌≡◌, List, length}
use Rattle.operator_chain.specs.Tree.{Tree}
use Rattle.operator_chain.specs.Machine.{Frame, popped, Keeps}
use Rattle.operator_chain.proofs.stack.take_over.Given as goal

-- what is left on the stack gives what all of it gives
abbrev pub invariant-loop-part : goal.invariant-loop-part
invariant-loop-part l =
    (p : List Frame × Tree) → Keeps l.fn.parts l.fn.last p → (q : List Frame × Tree) × Keeps l.parts l.last q × (popped l.operator p.0 p.1 ≡ popped l.operator q.0 q.1)

abbrev pub decreases-loop-part : goal.decreases-loop-part
decreases-loop-part l = length l.parts
