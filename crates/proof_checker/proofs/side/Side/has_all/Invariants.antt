use Rattle.std.proofs.Common.{drop, length}
use Rattle.core_expr.specs.Nodes.{AreBelow, picked}
use Rattle.seq_calculus.specs.Calculus.{HasAll}
use Rattle.proof_checker.specs.Sides.{seen}
use Rattle.proof_checker.proofs.side.Side.has_all.Given as goal

abbrev pub invariant-loop-item : goal.invariant-loop-item
invariant-loop-item l =
    (HasAll (seen l.bank l.self) (picked l.bank (drop l.item-index l.items)) → HasAll (seen l.bank l.self) (picked l.bank l.items))
    × (HasAll (seen l.bank l.self) (picked l.bank l.items) → HasAll (seen l.bank l.self) (picked l.bank (drop l.item-index l.items)))
    × AreBelow (length l.bank) (drop l.item-index l.items)
