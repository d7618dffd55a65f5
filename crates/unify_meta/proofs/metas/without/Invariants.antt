use Rattle.std.proofs.Common.{◌≡◌, take}
use Rattle.core_expr.specs.Nodes.{canon_sym}
use Rattle.unifier_definition.specs.Metas.{without}
use Rattle.unify_meta.specs.Metas.{symbols}
use Rattle.unify_meta.proofs.metas.without.Given as goal

abbrev pub invariant-loop-meta : goal.invariant-loop-meta
invariant-loop-meta l =
    symbols l.others.items ≡ without (canon_sym l.number 0) (symbols (take l.meta-index l.metas))
