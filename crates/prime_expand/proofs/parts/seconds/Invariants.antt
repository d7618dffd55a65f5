use Rattle.std.proofs.Common.{◌≡◌, ◌++◌, length}
use Rattle.prime_expand.specs.Both as spec
use Rattle.prime_expand.proofs.parts.seconds.Given as goal

abbrev pub invariant-loop-parts : goal.invariant-loop-parts
invariant-loop-parts l = spec.seconds l.fn.parts.items ≡ l.found.items ++ spec.seconds l.parts.rest.items

abbrev pub decreases-loop-parts : goal.decreases-loop-parts
decreases-loop-parts l = length l.parts.rest.items
