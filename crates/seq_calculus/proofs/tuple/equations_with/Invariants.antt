use Rattle.std.proofs.Common.{◌≡◌, take}
use Rattle.seq_calculus.specs.Schemas.{equals_each}
use Rattle.seq_calculus.proofs.tuple.equations_with.Given as goal

abbrev pub invariant-loop-item : goal.invariant-loop-item
invariant-loop-item l = l.out.items ≡ equals_each l.t (take l.item-index l.items)
