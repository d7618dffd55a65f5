use Rattle.std.proofs.Common.{◌≡◌, drop}
use Rattle.proof_contexts.specs.Expansion.{has_number}
use Rattle.known_facts.proofs.known.is_among.Given as goal

abbrev pub invariant-loop-other : goal.invariant-loop-other
invariant-loop-other l = has_number l.numbers l.number ≡ has_number (drop l.other-index l.numbers) l.number
