use Rattle.std.proofs.Common.{◌≡◌, ◌++◌, map, take, drop}
use Rattle.proof_contexts.specs.Contexts.{hidden}
use Rattle.known_facts.specs.Shown.{entries_of}
use Rattle.known_facts.proofs.known.hide_marks.Given as goal

abbrev pub invariant-loop-i : goal.invariant-loop-i
invariant-loop-i l = entries_of l.known.items ≡ map (hidden l.marks) (take l.i (entries_of l.fn.known.items)) ++ drop l.i (entries_of l.fn.known.items)
