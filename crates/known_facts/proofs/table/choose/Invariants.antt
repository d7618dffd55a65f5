use Rattle.std.proofs.Common.{◌≡◌, ◌++◌, drop}
use Rattle.proof_contexts.specs.Expansion.{chosen}
use Rattle.known_facts.proofs.table.choose.Given as goal

abbrev pub invariant-loop-definition : goal.invariant-loop-definition
invariant-loop-definition l = l.found ++ chosen l.numbers (drop l.definition-index l.definitions) ≡ chosen l.numbers l.definitions
