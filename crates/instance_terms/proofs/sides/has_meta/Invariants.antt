use Rattle.std.proofs.Common.{◌≡◌, false, take}
use Rattle.unifier_definition.specs.Metas.{has_meta}
use Rattle.term_bank.specs.Banks.{IsDistinct, Extends, tree_at}
use Rattle.unify_meta.specs.Metas.{symbols}
use Rattle.instance_terms.proofs.sides.has_meta.Given as goal

abbrev pub invariant-loop-meta : goal.invariant-loop-meta
invariant-loop-meta l =
    record {
      none : has_meta (symbols (take l.meta-index l.metas)) (tree_at l.initial.bank l.e) ≡ false;
      extends : Extends l.initial.bank l.bank;
      distinct : IsDistinct l.bank;
    }
