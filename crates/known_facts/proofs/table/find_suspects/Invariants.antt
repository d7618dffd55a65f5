use Rattle.std.proofs.Common.{◌≡◌, [], drop}
use Rattle.known_facts.specs.Clean.{suspects}
use Rattle.known_facts.proofs.table.find_suspects.Given as goal

abbrev pub invariant-loop-definition : goal.invariant-loop-definition
invariant-loop-definition l = suspects l.found.items (drop l.definition-index l.definitions) ≡ suspects [] l.definitions
