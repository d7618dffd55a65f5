use Rattle.std.proofs.Common.{◌≡◌, ◌++◌, drop}
use Rattle.known_facts.specs.Grown.{states_of}
use Rattle.known_facts.specs.Shown.{entries_of}
use Rattle.known_facts.proofs.known.states.Given as goal

abbrev pub invariant-loop-fact : goal.invariant-loop-fact
invariant-loop-fact l = l.found.items ++ states_of (entries_of (drop l.fact-index l.known)) ≡ states_of (entries_of l.known)
