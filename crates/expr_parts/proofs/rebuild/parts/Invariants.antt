use Rattle.std.proofs.Common.{◌≡◌, take}
use Rattle.core_expr.specs.Heads.{subtrees}
use Rattle.expr_parts.proofs.rebuild.parts.Given as goal

abbrev pub invariant-loop-k : goal.invariant-loop-k
invariant-loop-k l = l.found.items ≡ take l.k (subtrees l.e)
