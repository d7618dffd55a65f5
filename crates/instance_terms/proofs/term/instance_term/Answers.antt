use Rattle.std.proofs.Common.{◌∙◌, arith, length, None, Some, Global, ap, sym, subst}
use Rattle.core_expr.specs.Nodes.{canon_sym}
use Rattle.unifier_definition.specs.Unify.{mgu, bound_to}
use Rattle.term_bank.specs.Banks.{tree_at}
use Rattle.term_bank.proofs.InstLaws.{same_tree, longer}
use Rattle.unify_meta.specs.Metas.{symbols}
use Rattle.unify_meta.specs.Bindings.{bindings, TermsBelow}
use Rattle.term_walks.specs.Walks.{tree_for}
use Rattle.unify_meta.specs.Rounds.{IsAnswer}
use Rattle.instance_terms.specs.Fresh.{fresh_of}
use Rattle.instance_terms.proofs.TermLaws.{term_none, term_unbound, term_some}
use Rattle.instance_terms.proofs.term.instance_term.Goals as goal

pub returns-in_default-clause-ok : goal.returns-in_default-clause-ok
returns-in_default-clause-ok c =
    let m = mgu (symbols c.args.metas.now) (tree_at c.args.bank.now c.args.s) (tree_at c.args.bank.now c.args.t) in
    let a : IsAnswer {A = Global} c.unify.new.bank m None = subst (IsAnswer {A = Global} c.unify.new.bank m) c.in_default.is c.in_ok-bound.ensures.ok in
    term_none c.unify.new.bank (fresh_of c.args.w) (symbols c.args.metas.now) (tree_at c.args.bank.now c.args.s) (tree_at c.args.bank.now c.args.t) a

pub returns-in_default-bound_to-clause-ok : goal.returns-in_default-bound_to-clause-ok
returns-in_default-bound_to-clause-ok c =
    let m = mgu (symbols c.args.metas.now) (tree_at c.args.bank.now c.args.s) (tree_at c.args.bank.now c.args.t) in
    let one = c.unify.new.bank in
    let a : IsAnswer one m (Some c.in-Some.bound) = subst (IsAnswer one m) c.in-Some.is c.in_ok-bound.ensures.ok in
    let b = ap (tree_for one) (sym c.in_default-bound_to.is) ∙ c.bound_to.ensures.tree one ∙ ap (λ bs. bound_to (canon_sym c.args.w.metas 0) (bindings one bs)) c.as_slice.ensures.value in
    term_unbound one (fresh_of c.args.w) (symbols c.args.metas.now) (tree_at c.args.bank.now c.args.s) (tree_at c.args.bank.now c.args.t) (bindings one c.in-Some.bound.items) a.0 b

pub grounded-requires-clause-term : goal.grounded-requires-clause-term
grounded-requires-clause-term c =
    let m = mgu (symbols c.args.metas.now) (tree_at c.args.bank.now c.args.s) (tree_at c.args.bank.now c.args.t) in
    let one = c.unify.new.bank in
    let a : IsAnswer one m (Some c.in-Some.bound) = subst (IsAnswer one m) c.in-Some.is c.in_ok-bound.ensures.ok in
    let l = c.in-Some-bound_to.ensures.below (length one) (subst (TermsBelow (length one)) (sym c.as_slice.ensures.value) a.1) in
    let x = longer one c.spare_term.new.bank c.spare_term.ensures.extends in
    omega (arith, l, x)

pub returns-clause-ok : goal.returns-clause-ok
returns-clause-ok c =
    let m = mgu (symbols c.args.metas.now) (tree_at c.args.bank.now c.args.s) (tree_at c.args.bank.now c.args.t) in
    let one = c.unify.new.bank in
    let a : IsAnswer one m (Some c.in-Some.bound) = subst (IsAnswer one m) c.in-Some.is c.in_ok-bound.ensures.ok in
    let l = c.in-Some-bound_to.ensures.below (length one) (subst (TermsBelow (length one)) (sym c.as_slice.ensures.value) a.1) in
    let b = ap (tree_for one) (sym c.in-Some-bound_to.is) ∙ c.bound_to.ensures.tree one ∙ ap (λ bs. bound_to (canon_sym c.args.w.metas 0) (bindings one bs)) c.as_slice.ensures.value in
    term_some c.grounded.new.bank (fresh_of c.args.w) (symbols c.args.metas.now) (tree_at c.args.bank.now c.args.s) (tree_at c.args.bank.now c.args.t) (tree_at one c.in-Some-bound_to.term) (tree_at c.spare_term.new.bank c.in-Some-bound_to.term) (tree_at c.spare_term.new.bank c.in_ok-spare.spare) c.in_ok-grounded.field-0 (bindings one c.in-Some.bound.items) a.0 b (same_tree one c.spare_term.new.bank c.in-Some-bound_to.term c.spare_term.ensures.extends l) c.in_ok-spare.ensures.ok.tree c.in_ok-grounded.ensures.ok
