use Rattle.std.proofs.Common.{◌≡◌, ◌++◌, drop}
use Rattle.proof_contexts.specs.Contexts.{usable_of}
use Rattle.proof_contexts.specs.Leaves.{plain_leaves}
use Rattle.known_facts.specs.Clean.{definitions_of}
use Rattle.known_facts.specs.Shown.{facts_of, context_of}
use Rattle.proof_leaves.proofs.proof.show_facts.Given as goal

abbrev pub invariant-loop-fact : goal.invariant-loop-fact
invariant-loop-fact l =
    l.leaves ++ plain_leaves (definitions_of l.table) (usable_of (context_of l.context).known) l.numbers (facts_of (drop l.fact-index l.facts))
    ≡ l.fn.leaves ++ plain_leaves (definitions_of l.table) (usable_of (context_of l.context).known) l.numbers (facts_of l.facts)
