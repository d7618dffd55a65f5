use Rattle.std.proofs.Common.{◌≡◌, ◌++◌, drop}
use Rattle.proof_contexts.specs.Expansion.{has_number}
use Rattle.usable_facts.specs.Theorems.{chosen_keys}
use Rattle.theorem_leaves.proofs.citations.Citations.facts.Given as goal

abbrev pub invariant-loop-key : goal.invariant-loop-key
invariant-loop-key l = l.found ++ chosen_keys (has_number l.self.theorems.now.keys) (drop l.key-index l.key-items) ≡ l.fn.found ++ chosen_keys (has_number l.self.theorems.now.keys) l.key-items
