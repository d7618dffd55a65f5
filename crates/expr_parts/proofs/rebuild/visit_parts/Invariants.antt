use Rattle.std.proofs.Common.{drop}
use Rattle.core_expr.specs.Heads.{subtrees}
use Rattle.core_expr.specs.Places.{subtree, kind_of}
use Rattle.expr_parts.specs.declared.change.Change.{Change}
use Rattle.expr_parts.specs.Walk.{inner, parts_rebuilt, Builds}
use Rattle.expr_parts.proofs.rebuild.visit_parts.Given as goal

abbrev pub invariant-loop-k : goal.invariant-loop-k
invariant-loop-k l =
    (c : Change) → Builds c l.e l.fn.tasks.items l.tasks.items (drop l.k (parts_rebuilt c l.depth (inner l.depth (kind_of (subtree l.e l.node))) (subtrees (subtree l.e l.node))))
