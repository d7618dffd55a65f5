use Rattle.std.proofs.Common.{◌≡◌, map, length}
use Rattle.prime_expand.specs.Forms as spec
use Rattle.prime_expand.proofs.Ways.{turned, rebuilt}
use Rattle.prime_expand.proofs.forms.updated.Given as goal

abbrev pub invariant-loop-turn : goal.invariant-loop-turn
invariant-loop-turn l = spec.updated l.fn.r l.fn.keys.items l.fn.v ≡ rebuilt (map turned l.turns.items) l.value

abbrev pub decreases-loop-turn : goal.decreases-loop-turn
decreases-loop-turn l = length l.turns.items
