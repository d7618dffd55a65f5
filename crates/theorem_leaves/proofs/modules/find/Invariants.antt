use Rattle.std.proofs.Common.{◌≡◌, drop}
use Rattle.theorem_leaves.specs.Modules as spec
use Rattle.theorem_leaves.proofs.modules.find.Given as goal

abbrev pub invariant-loop-entry : goal.invariant-loop-entry
invariant-loop-entry l = spec.found (drop l.entry-index l.done) l.name ≡ spec.found l.done l.name
