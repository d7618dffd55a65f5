use Rattle.std.proofs.Common.{◌≡◌, drop}
use Rattle.valuation.specs.Truth.{are_propositional}
use Rattle.valuation.proofs.form.is_propositional.Given as goal

abbrev pub invariant-loop-fact : goal.invariant-loop-fact
invariant-loop-fact l = are_propositional (drop l.fact-index l.canon.facts) ≡ are_propositional l.canon.facts
