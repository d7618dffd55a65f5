use Rattle.std.proofs.Common.{◌≡◌, List, length}
use Rattle.operator_chain.specs.Tree.{Tree}
use Rattle.operator_chain.specs.Machine.{Frame, plug, Keeps}
use Rattle.operator_chain.proofs.stack.close_all.Given as goal

abbrev pub invariant-loop-part : goal.invariant-loop-part
invariant-loop-part l =
    (p : List Frame × Tree) → Keeps l.fn.parts l.fn.last p → (q : List Frame × Tree) × Keeps l.parts l.last q × (plug p.0 p.1 ≡ plug q.0 q.1)

abbrev pub decreases-loop-part : goal.decreases-loop-part
decreases-loop-part l = length l.parts
