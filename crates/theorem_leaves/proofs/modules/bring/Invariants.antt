use Rattle.std.proofs.Common.{◌≡◌, ◌++◌, [], drop}
use Rattle.known_facts.specs.Shown.{context_of}
use Rattle.theorem_leaves.specs.Modules.{brings}
use Rattle.theorem_leaves.proofs.modules.bring.Given as goal

abbrev pub invariant-loop-entry : goal.invariant-loop-entry
invariant-loop-entry l =
    ((context_of l.context).known ++ brings (drop l.entry-index l.done) l.names ≡ brings l.done l.names)
    × ((context_of l.context).defs ≡ [])
