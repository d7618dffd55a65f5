use Rattle.std.proofs.Common.{◌≡◌, [], ◌++◌, map, drop}
use Rattle.obligation.specs.Unfolding.{unfolded}
use Rattle.proof_contexts.specs.Canonical.{distinct}
use Rattle.canonical_form.proofs.form.distinct_facts.Given as goal

abbrev pub invariant-loop-fact : goal.invariant-loop-fact
invariant-loop-fact l =
    l.found.keys ++ distinct l.found.keys (map (unfolded l.defs) (drop l.fact-index l.facts)) ≡ distinct [] (map (unfolded l.defs) l.facts)
