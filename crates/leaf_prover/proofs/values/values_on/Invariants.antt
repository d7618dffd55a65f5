use Rattle.std.proofs.Common.{take}
use Rattle.leaf_prover.specs.Marks.{AreMarked}
use Rattle.leaf_prover.proofs.values.values_on.Given as goal

abbrev pub invariant-loop-i : goal.invariant-loop-i
invariant-loop-i l = AreMarked l.bank (take l.i l.branch) l.symbols l.values.items
