use Rattle.std.proofs.Common.{◌≡◌, map}
use Rattle.prime_expand.specs.Forms as spec
use Rattle.prime_expand.proofs.Ways.{turned}
use Rattle.prime_expand.proofs.forms.way.Given as goal

abbrev pub invariant-loop-key : goal.invariant-loop-key
invariant-loop-key l = record { turns : map turned l.turns.items ≡ spec.way l.fn.r l.yielded; value : l.value ≡ spec.along l.fn.r l.yielded }
