use Rattle.std.proofs.Common.{◌≡◌, drop}
use Rattle.prime_expand.specs.Forms as spec
use Rattle.prime_expand.proofs.forms.along.Given as goal

abbrev pub invariant-loop-key : goal.invariant-loop-key
invariant-loop-key l = spec.along l.r l.keys ≡ spec.along l.done (drop l.key-index l.keys)
