use Rattle.std.proofs.Common.{◌≡◌, ◌++◌, drop}
use Rattle.proof_contexts.specs.Contexts.{cited_of}
use Rattle.known_facts.specs.Shown.{entries_of, facts_of}
use Rattle.known_facts.proofs.known.cited_facts.Given as goal

abbrev pub invariant-loop-fact : goal.invariant-loop-fact
invariant-loop-fact l = l.found ++ cited_of (entries_of l.known) (facts_of (drop l.fact-index l.facts)) ≡ l.fn.found ++ cited_of (entries_of l.known) (facts_of l.facts)
