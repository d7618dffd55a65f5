use Rattle.std.proofs.Common.{◌≡◌, drop}
use Rattle.proof_contexts.specs.Contexts.{has_any}
use Rattle.known_facts.proofs.known.any_among.Given as goal

abbrev pub invariant-loop-number : goal.invariant-loop-number
invariant-loop-number l = has_any l.these l.numbers ≡ has_any (drop l.number-index l.these) l.numbers
