use Rattle.std.proofs.Common.{◌≡◌, length}
use Rattle.unifier_definition.specs.Unify.{mgu}
use Rattle.term_bank.specs.Banks.{IsDistinct, Extends, tree_at}
use Rattle.unify_meta.specs.Metas.{symbols}
use Rattle.unify_meta.specs.Rounds.{IsPending, unify_from}
use Rattle.unify_meta.proofs.unifier.unify.Given as goal

abbrev pub invariant-loop-room : goal.invariant-loop-room
invariant-loop-room l =
    record {
      same : mgu (symbols l.metas) (tree_at l.initial.bank l.s) (tree_at l.initial.bank l.t) ≡ unify_from l.room l.bank l.pending;
      within : IsPending (length l.bank) l.pending;
      extends : Extends l.initial.bank l.bank;
      distinct : IsDistinct l.bank;
    }

abbrev pub decreases-loop-room : goal.decreases-loop-room
decreases-loop-room l = l.room
