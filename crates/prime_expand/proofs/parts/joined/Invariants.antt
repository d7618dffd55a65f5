use Rattle.std.proofs.Common.{◌≡◌, fold}
use Rattle.prime_expand.specs.Both as spec
use Rattle.prime_expand.proofs.parts.joined.Given as goal

abbrev pub invariant-loop-part : goal.invariant-loop-part
invariant-loop-part l = l.done ≡ fold (spec.binary l.head) l.initial.done l.yielded
