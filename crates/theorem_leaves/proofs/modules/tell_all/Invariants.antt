use Rattle.std.proofs.Common.{◌≡◌, drop}
use Rattle.known_facts.specs.Shown.{context_of}
use Rattle.theorem_leaves.specs.Modules.{told}
use Rattle.theorem_leaves.proofs.modules.tell_all.Given as goal

abbrev pub invariant-loop-fact : goal.invariant-loop-fact
invariant-loop-fact l = told (drop l.fact-index l.facts) (context_of l.context) ≡ told l.facts (context_of l.fn.context)
