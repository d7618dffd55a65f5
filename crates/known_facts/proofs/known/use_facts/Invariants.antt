use Rattle.std.proofs.Common.{◌≡◌, drop}
use Rattle.proof_contexts.specs.Contexts.{use_facts}
use Rattle.known_facts.specs.Shown.{entries_of, facts_of}
use Rattle.known_facts.proofs.known.use_facts.Given as goal

abbrev pub invariant-loop-fact : goal.invariant-loop-fact
invariant-loop-fact l = use_facts l.label (facts_of (drop l.fact-index l.facts)) (entries_of l.known.items) ≡ use_facts l.label (facts_of l.facts) (entries_of l.fn.known.items)
