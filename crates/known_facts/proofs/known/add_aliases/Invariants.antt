use Rattle.std.proofs.Common.{◌≡◌, ◌++◌, drop}
use Rattle.proof_contexts.specs.Contexts.{aliases}
use Rattle.known_facts.specs.Shown.{entries_of}
use Rattle.known_facts.proofs.known.add_aliases.Given as goal

abbrev pub invariant-loop-formula : goal.invariant-loop-formula
invariant-loop-formula l = entries_of l.known.items ++ aliases l.label (drop l.formula-index l.formulas) ≡ entries_of l.fn.known.items ++ aliases l.label l.formulas
