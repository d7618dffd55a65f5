use Rattle.std.proofs.Common.{◌≡◌, ◌++◌, map, drop}
use Rattle.module_scope.specs.Scope.{seen}
use Rattle.module_scope.specs.Resolution.{unknown}
use Rattle.module_scope.proofs.scope.Scope.unknown.Given as goal

abbrev pub invariant-loop-name : goal.invariant-loop-name
invariant-loop-name l = unknown l.self (map seen l.new) ≡ map seen l.names.items ++ unknown l.self (map seen (drop l.name-index l.new))
