use Rattle.std.proofs.Common.{◌≡◌, map, take}
use Rattle.module_scope.specs.Scope.{seen}
use Rattle.module_scope.specs.Kept.{in_scope}
use Rattle.module_scope.proofs.scope.Scope.names.Given as goal

abbrev pub invariant-loop-named : goal.invariant-loop-named
invariant-loop-named l = map seen l.names.items ≡ in_scope (take l.named-index l.named-items)
