use Rattle.std.proofs.Common.{◌≡◌, ◌++◌, map, take, drop}
use Rattle.expression_level.specs.Store.{changed}
use Rattle.expression_level.proofs.weight.change_all.Given as goal

abbrev pub invariant-loop-index : goal.invariant-loop-index
invariant-loop-index l = l.uses.items ≡ map (changed l.change) (take l.index l.fn.uses.items) ++ drop l.index l.fn.uses.items
