use Rattle.std.proofs.Common.{◌≡◌, ◌++◌}
use Rattle.search_definition.specs.Instances.{first_metas}
use Rattle.unify_meta.specs.Metas.{symbols}
use Rattle.instance_terms.specs.Fresh.{meta_from}
use Rattle.instance_terms.proofs.metas.add_metas.Given as goal

abbrev pub invariant-loop-left : goal.invariant-loop-left
invariant-loop-left l =
    symbols l.metas.items ++ first_metas (meta_from l.first) l.left ≡ symbols l.fn.metas.items ++ first_metas (meta_from l.first) l.count

abbrev pub decreases-loop-left : goal.decreases-loop-left
decreases-loop-left l = l.left
