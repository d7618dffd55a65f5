use Rattle.std.proofs.Common.{◌≡◌, ◌++◌, drop}
use Rattle.proof_contexts.specs.Contexts.{without}
use Rattle.known_facts.proofs.context.others.Given as goal

abbrev pub invariant-loop-number : goal.invariant-loop-number
invariant-loop-number l = l.found.items ++ without l.these (drop l.number-index l.numbers) ≡ without l.these l.numbers
