use Rattle.std.proofs.Common.{◌≡◌, ◌++◌, map, drop}
use Rattle.module_scope.specs.Scope.{seen}
use Rattle.module_scope.proofs.scope.Scope.enter_all.Given as goal

abbrev pub invariant-loop-name : goal.invariant-loop-name
invariant-loop-name l = l.fn.self ++ map seen l.new ≡ l.self ++ map seen (drop l.name-index l.new)
