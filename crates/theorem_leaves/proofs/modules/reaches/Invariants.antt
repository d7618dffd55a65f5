use Rattle.std.proofs.Common.{◌++◌, List, drop}
use Rattle.usable_facts.specs.Theorems.{Done, reaches}
use Rattle.theorem_leaves.specs.Passing.{AreDone, HasNames}
use Rattle.theorem_leaves.proofs.modules.reaches.Given as goal

abbrev pub invariant-loop-name : goal.invariant-loop-name
invariant-loop-name l = (ds : List Done) → AreDone l.done ds → HasNames (l.names ++ reaches ds (drop l.name-index l.extends)) (reaches ds l.extends)
