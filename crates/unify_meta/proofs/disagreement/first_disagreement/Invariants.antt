use Rattle.std.proofs.Common.{◌≡◌, ◌<◌, length}
use Rattle.term_bank.specs.Banks.{tree_at}
use Rattle.unifier_definition.specs.Unify.{difference}
use Rattle.unify_meta.specs.Metas.{symbols}
use Rattle.unify_meta.proofs.disagreement.first_disagreement.Given as goal

abbrev pub invariant-loop-left : goal.invariant-loop-left
invariant-loop-left l =
    record {
      left_within : l.left < length l.bank;
      right_within : l.right < length l.bank;
      same : difference (symbols l.metas) (tree_at l.bank l.s) (tree_at l.bank l.t) ≡ difference (symbols l.metas) (tree_at l.bank l.left) (tree_at l.bank l.right);
    }

abbrev pub decreases-loop-left : goal.decreases-loop-left
decreases-loop-left l = l.left
