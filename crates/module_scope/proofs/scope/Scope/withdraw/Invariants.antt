use Rattle.std.proofs.Common.{◌≡◌, ◌++◌, length, take, drop, map, reverse}
use Rattle.module_scope.specs.Scope.{seen}
use Rattle.module_scope.proofs.scope.Scope.withdraw.Given as goal

abbrev pub invariant-loop-self : goal.invariant-loop-self
invariant-loop-self l = record {
  left : take l.len l.self ≡ take l.len l.fn.self;
  taken : drop l.len l.fn.self ≡ drop l.len l.self ++ reverse (map seen l.taken.items);
}

abbrev pub decreases-loop-self : goal.decreases-loop-self
decreases-loop-self l = length l.self
