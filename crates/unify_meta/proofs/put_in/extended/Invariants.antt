use Rattle.std.proofs.Common.{◌≡◌, take, length}
use Rattle.core_expr.specs.Nodes.{canon_sym}
use Rattle.unifier_definition.specs.Unify.{put_into}
use Rattle.term_bank.specs.Banks.{IsDistinct, Extends, tree_at}
use Rattle.unify_meta.specs.Bindings.{bindings, TermsBelow}
use Rattle.unify_meta.proofs.put_in.extended.Given as goal

abbrev pub invariant-loop-b : goal.invariant-loop-b
invariant-loop-b l =
    record {
      more : bindings l.bank l.more.items ≡ put_into (canon_sym l.a.name 0) (tree_at l.initial.bank l.a.term) (bindings l.initial.bank (take l.b-index l.bound));
      below : TermsBelow (length l.bank) l.more.items;
      extends : Extends l.initial.bank l.bank;
      distinct : IsDistinct l.bank;
    }
