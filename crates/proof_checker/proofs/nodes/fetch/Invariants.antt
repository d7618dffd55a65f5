use Rattle.std.proofs.Common.{◌≡◌, ◌++◌, drop, length}
use Rattle.core_expr.specs.Nodes.{AreBelow}
use Rattle.proof_checker.specs.Tables.{gathered}
use Rattle.proof_checker.proofs.nodes.fetch.Given as goal

abbrev pub invariant-loop-item : goal.invariant-loop-item
invariant-loop-item l = (l.indices.items ++ gathered l.places (drop l.item-index l.items) ≡ gathered l.places l.items) × AreBelow (length l.places) (drop l.item-index l.items)
