use Rattle.std.proofs.Common.{◌≡◌, ◌++◌, length, map, reverse}
use Rattle.module_scope.specs.Scope.{seen}
use Rattle.module_scope.proofs.scope.Scope.restore.Given as goal

abbrev pub invariant-loop-name : goal.invariant-loop-name
invariant-loop-name l = l.fn.self ++ reverse (map seen l.initial.taken.items) ≡ l.self ++ reverse (map seen l.taken.items)

abbrev pub decreases-loop-name : goal.decreases-loop-name
decreases-loop-name l = length l.taken.items
