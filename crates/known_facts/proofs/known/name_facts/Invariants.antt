use Rattle.std.proofs.Common.{◌≡◌, ◌++◌, drop}
use Rattle.proof_contexts.specs.Contexts.{named}
use Rattle.known_facts.specs.Shown.{entries_of}
use Rattle.known_facts.proofs.known.name_facts.Given as goal

abbrev pub invariant-loop-fact : goal.invariant-loop-fact
invariant-loop-fact l = l.found ++ named l.key (entries_of (drop l.fact-index l.known)) ≡ l.fn.found ++ named l.key (entries_of l.known)
