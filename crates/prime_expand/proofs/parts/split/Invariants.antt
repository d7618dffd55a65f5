use Rattle.std.proofs.Common.{◌≡◌}
use Rattle.prime_expand.specs.Both as spec
use Rattle.prime_expand.proofs.parts.split.Given as goal

abbrev pub invariant-loop-part : goal.invariant-loop-part
invariant-loop-part l = record { plains : l.plains.items ≡ spec.plains l.yielded; primeds : l.primeds.items ≡ spec.primeds l.yielded }
