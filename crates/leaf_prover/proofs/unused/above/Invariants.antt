use Rattle.std.proofs.Common.{◌≡◌, map, reverse}
use Rattle.search_definition.specs.Search.{above}
use Rattle.leaf_prover.proofs.unused.above.Given as goal

abbrev pub invariant-loop-symbol : goal.invariant-loop-symbol
invariant-loop-symbol l = l.above ≡ above (reverse (map (λ s. s.now) l.yielded))
