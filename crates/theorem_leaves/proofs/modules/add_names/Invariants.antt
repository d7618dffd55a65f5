use Rattle.std.proofs.Common.{◌++◌, drop}
use Rattle.theorem_leaves.specs.Passing.{HasNames}
use Rattle.theorem_leaves.proofs.modules.add_names.Given as goal

abbrev pub invariant-loop-name : goal.invariant-loop-name
invariant-loop-name l = HasNames (l.names ++ drop l.name-index l.more) (l.fn.names ++ l.more)
