use Rattle.std.proofs.Common.{arith, length, ap, ◌∙◌, sym, refl, [], append-nil}
use Rattle.std.proofs.lemmas.List.{take_all}
use Rattle.core_expr.specs.Nodes.{canon_sym}
use Rattle.unifier_definition.specs.Unify.{put_into}
use Rattle.term_bank.specs.Banks.{tree_at}
use Rattle.term_bank.proofs.InstLaws.{Extends-trans, longer}
use Rattle.unify_meta.specs.Bindings.{bindings}
use Rattle.unify_meta.proofs.BindingLaws.{terms_at}
use Rattle.unify_meta.proofs.RoundLaws.{assignment_more, below_next, put_next, put_later, extended_last}
use Rattle.unify_meta.proofs.put_in.extended.Goals as goal

pub put_in-requires-clause-assigned : goal.put_in-requires-clause-assigned
put_in-requires-clause-assigned c = assignment_more c.args.bank.now c.loop-b.bank c.args.a c.loop-b.invariant.extends c.requires.assigned

pub put_in-requires-clause-term : goal.put_in-requires-clause-term
put_in-requires-clause-term c =
    let l = longer c.args.bank.now c.loop-b.bank c.loop-b.invariant.extends in
    let t = terms_at (length c.args.bank.now) c.args.bound.now c.loop-b.b-index (record { name = 0; term = 0 }) c.requires.bound c.loop-b-test.true in
    omega (arith, l, t)

pub loop-b-preserved : goal.loop-b-preserved
loop-b-preserved c =
    let ts = c.args.bank.now in
    let now = c.loop-b.bank in
    let new = c.put_in.new.bank in
    let k = c.loop-b.b-index in
    let e = terms_at (length ts) c.args.bound.now k (record { name = 0; term = 0 }) c.requires.bound c.loop-b-test.true in
    let g = put_later ts now new (canon_sym c.args.a.name 0) c.args.a.term _ c.in_ok-term.term c.loop-b.invariant.extends c.requires.assigned.term e c.in_ok-term.ensures.ok in
    record {
      more = put_next ts now new (canon_sym c.args.a.name 0) (tree_at ts c.args.a.term) _ c.args.bound.now c.loop-b.more.items c.push.new.self.items k c.in_ok-term.term (record { name = 0; term = 0 }) c.put_in.ensures.extends c.loop-b.invariant.below c.loop-b-test.true c.loop-b.invariant.more refl g c.in_ok-push.ensures.items;
      below = below_next now new c.loop-b.more.items c.push.new.self.items _ c.put_in.ensures.extends c.loop-b.invariant.below g.within c.in_ok-push.ensures.items;
      extends = Extends-trans ts now new c.loop-b.invariant.extends c.put_in.ensures.extends;
      distinct = c.put_in.ensures.distinct;
    }

pub returns-clause-below : goal.returns-clause-below
returns-clause-below c =
    let x = c.loop-b.invariant.extends in
    let l = longer c.args.bank.now c.loop-b.bank x in
    let t = c.requires.assigned.term in
    below_next c.loop-b.bank c.loop-b.bank c.loop-b.more.items c.push-2.new.self.items (record { name = c.args.a.name; term = c.args.a.term }) ([], sym (append-nil c.loop-b.bank)) c.loop-b.invariant.below (omega (arith, l, t)) c.in_ok-push-2.ensures.items

pub returns-clause-ok : goal.returns-clause-ok
returns-clause-ok c =
    extended_last c.args.bank.now c.loop-b.bank c.args.a c.args.bound.now c.loop-b.more.items c.push-2.new.self.items c.loop-b.invariant.extends c.requires.assigned.term
    (c.loop-b.invariant.more ∙ ap (λ bs. put_into (canon_sym c.args.a.name 0) (tree_at c.args.bank.now c.args.a.term) (bindings c.args.bank.now bs)) (take_all c.loop-b.b-index c.args.bound.now c.loop-b-test.false))
    c.in_ok-push-2.ensures.items
