use Rattle.std.proofs.Common.{◌≡◌, drop}
use Rattle.usable_facts.specs.Theorems.{is_reached}
use Rattle.theorem_leaves.proofs.modules.is_reached.Given as goal

abbrev pub invariant-loop-other : goal.invariant-loop-other
invariant-loop-other l = is_reached (drop l.other-index l.names) l.name ≡ is_reached l.names l.name
