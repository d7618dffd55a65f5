use Rattle.std.proofs.Common.{◌≡◌, ◌++◌, drop}
use Rattle.symbol_table.specs.Symbols.{symbol_at}
use Rattle.proof_contexts.specs.Expansion.{has_number}
use Rattle.usable_facts.specs.Theorems.{chosen_keys}
use Rattle.theorem_leaves.specs.Homes.{means, entries}
use Rattle.theorem_leaves.specs.Citations.{keys_in_all}
use Rattle.theorem_leaves.proofs.citations.Citations.+proofs.Given as goal

abbrev pub invariant-steps-loop-step : goal.invariant-steps-loop-step
invariant-steps-loop-step l =
    l.found ++ chosen_keys (has_number l.self.theorems.now.keys) (keys_in_all (means l.self.home) (symbol_at l.self.outline.now) (entries l.self.home) (drop l.step-index l.steps))
    ≡ l.fn.found ++ chosen_keys (has_number l.self.theorems.now.keys) (keys_in_all (means l.self.home) (symbol_at l.self.outline.now) (entries l.self.home) l.steps)
