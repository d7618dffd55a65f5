use Rattle.std.proofs.Common.{◌≡◌, take}
use Rattle.seq_calculus.specs.Schemas.{equal_pairs}
use Rattle.seq_calculus.proofs.tuple.equations.Given as goal

abbrev pub invariant-loop-i : goal.invariant-loop-i
invariant-loop-i l = l.out.items ≡ equal_pairs (take l.i l.left) (take l.i l.right)
