use Rattle.std.proofs.Common.{◌≡◌, ◌-◌, arith, suc, Some, [], length, ap, sym, ◌∙◌, subst, append-nil}
use Rattle.unifier_definition.specs.Unify.{unify}
use Rattle.term_bank.specs.Banks.{tree_at}
use Rattle.term_bank.proofs.InstLaws.{Extends-trans, longer}
use Rattle.unify_meta.specs.declared.round.Outcome.TheVariants.{Unified, Failed, More}
use Rattle.unify_meta.specs.Metas.{symbols}
use Rattle.unify_meta.specs.Bindings.{bindings, TermsBelow}
use Rattle.unify_meta.specs.Rounds.{IsRound, unify_from}
use Rattle.unify_meta.proofs.RoundLaws.{length-symbols, bindings-more, below-more}
use Rattle.unify_meta.proofs.unifier.unify.Goals as goal

pub loop-room-init : goal.loop-room-init
loop-room-init c =
    let ts = c.args.bank.now in
    record {
      same = ap (λ k. unify k (symbols c.args.metas.now) [] (tree_at ts c.args.s) (tree_at ts c.args.t)) (length-symbols c.args.metas.now) ∙ (λ i. unify (length c.args.metas.now) (symbols (sym c.in_ok-from_slice.ensures.items i)) (bindings ts (sym c.new.ensures.items i)) (tree_at ts c.args.s) (tree_at ts c.args.t));
      within = record { left = c.requires.left; right = c.requires.right; bound = subst (TermsBelow (length ts)) (sym c.new.ensures.items) tt };
      extends = ([], sym (append-nil ts));
      distinct = c.count.ensures.distinct;
    }

pub returns-in-Unified-clause-ok : goal.returns-in-Unified-clause-ok
returns-in-Unified-clause-ok c =
    let now = c.loop-room.bank in
    let new = c.round.new.bank in
    let p = c.loop-room.pending in
    let n = c.loop-room.room - 1 in
    let e : c.loop-room.room ≡ suc n = let t = c.loop-room-test.true in omega (arith, t) in
    let r : IsRound now new p Unified = subst (IsRound now new p) c.in-Unified.is c.in_ok-round.ensures.ok in
    let b = c.loop-room.invariant.within.bound in
    (c.loop-room.invariant.same ∙ ap (λ k. unify_from k now p) e ∙ r n ∙ ap Some (sym (bindings-more now new p.bound.items c.round.ensures.extends b)), below-more (length now) (length new) p.bound.items (longer now new c.round.ensures.extends) b)

pub returns-in-Failed-clause-ok : goal.returns-in-Failed-clause-ok
returns-in-Failed-clause-ok c =
    let now = c.loop-room.bank in
    let new = c.round.new.bank in
    let p = c.loop-room.pending in
    let n = c.loop-room.room - 1 in
    let e : c.loop-room.room ≡ suc n = let t = c.loop-room-test.true in omega (arith, t) in
    let r : IsRound now new p Failed = subst (IsRound now new p) c.in-Failed.is c.in_ok-round.ensures.ok in
    c.loop-room.invariant.same ∙ ap (λ k. unify_from k now p) e ∙ r n

pub loop-room-preserved : goal.loop-room-preserved
loop-room-preserved c =
    let now = c.loop-room.bank in
    let new = c.round.new.bank in
    let p = c.loop-room.pending in
    let q = c.in-More.next in
    let n = c.loop-room.room - 1 in
    let e : c.loop-room.room ≡ suc n = let t = c.loop-room-test.true in omega (arith, t) in
    let r : IsRound now new p (More q) = subst (IsRound now new p) c.in-More.is c.in_ok-round.ensures.ok in
    record {
      same = c.loop-room.invariant.same ∙ ap (λ k. unify_from k now p) e ∙ r.1 n;
      within = r.0;
      extends = Extends-trans c.args.bank.now now new c.loop-room.invariant.extends c.round.ensures.extends;
      distinct = c.round.ensures.distinct;
    }
