use Rattle.std.proofs.Common.{ap, ◌∙◌, sym, subst, length}
use Rattle.core_expr.specs.Nodes.{canon_sym}
use Rattle.unifier_definition.specs.Metas.{without, put}
use Rattle.term_bank.specs.Banks.{tree_at}
use Rattle.term_bank.proofs.InstLaws.{Extends-trans, longer}
use Rattle.term_walks.proofs.NodeLaws.{HasTree-more}
use Rattle.unify_meta.specs.Metas.{symbols}
use Rattle.unify_meta.specs.Bindings.{TermsBelow}
use Rattle.unify_meta.proofs.RoundLaws.{put_later, extended_later, below-more}
use Rattle.unify_meta.proofs.round.bind.Goals as goal

pub extended-requires-clause-bound : goal.extended-requires-clause-bound
extended-requires-clause-bound c =
    let x = Extends-trans c.args.bank.now c.put_in.new.bank c.put_in-2.new.bank c.put_in.ensures.extends c.put_in-2.ensures.extends in
    subst (TermsBelow (length c.put_in-2.new.bank)) (sym c.as_slice-2.ensures.value) (below-more (length c.args.bank.now) (length c.put_in-2.new.bank) c.args.p.now.bound.items (longer c.args.bank.now c.put_in-2.new.bank x) c.requires.pending.bound)

pub returns-clause-ok : goal.returns-clause-ok
returns-clause-ok c =
    let ts = c.args.bank.now in
    let one = c.put_in.new.bank in
    let two = c.put_in-2.new.bank in
    let now = c.extended.new.bank in
    let f = canon_sym c.args.a.name 0 in
    let x = Extends-trans ts one two c.put_in.ensures.extends c.put_in-2.ensures.extends in
    let y = Extends-trans one two now c.put_in-2.ensures.extends c.extended.ensures.extends in
    record {
      free = c.in_ok-free.ensures ∙ ap (λ xs. without f (symbols xs)) c.as_slice.ensures.value;
      bound = c.in_ok-bound.ensures.ok ∙ extended_later ts two f c.args.a.term c.args.p.now.bound.items c.as_slice-2.result.now x c.requires.assigned.term c.requires.pending.bound c.as_slice-2.ensures.value;
      left = HasTree-more one now c.in_ok-left.left (put f (tree_at ts c.args.a.term) (tree_at ts c.args.p.now.left)) y c.in_ok-left.ensures.ok;
      right = HasTree-more two now c.in_ok-right.right (put f (tree_at ts c.args.a.term) (tree_at ts c.args.p.now.right)) c.extended.ensures.extends (put_later ts one two f c.args.a.term c.args.p.now.right c.in_ok-right.right c.put_in.ensures.extends c.requires.assigned.term c.requires.pending.right c.in_ok-right.ensures.ok);
      below = c.in_ok-bound.ensures.below;
    }
