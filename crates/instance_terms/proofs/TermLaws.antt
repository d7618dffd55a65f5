-- The term that unifying gives.
use Rattle.std.proofs.Common.{◌≡◌, ℕ, ◌+◌, ◌*◌, Some, None, List, ap, sym, ◌∙◌, arith, subst}
use Rattle.core_expr.specs.declared.head.Sym.{Sym}
use Rattle.core_expr.specs.Tree.{Tree}
use Rattle.core_expr.specs.Nodes.{canon_sym}
use Rattle.search_definition.specs.Terms.{after}
use Rattle.search_definition.specs.Instances.{Fresh, own_meta, spare_term, mapped, grounded, instance_term}
use Rattle.unifier_definition.specs.Metas.{assign}
use Rattle.unifier_definition.specs.Unify.{Binding, mgu, bound_to}
use Rattle.term_bank.specs.Banks.{HasTree}
use Rattle.formula_rules.specs.Answers.{HasTerm}

own-first : (w : Fresh) → canon_sym w.metas 0 ≡ own_meta w 0
own-first w = ap (λ x. canon_sym x 0) (let z : w.metas ≡ w.metas + 2 * 0 = omega arith in z)

pub term_none : (ts : List Tree) (w : Fresh) (ms : List Sym) (s t : Tree) → mgu ms s t ≡ None → HasTerm ts None (instance_term w ms s t)
unfolding instance_term
term_none ts w ms s t e =
    subst (HasTerm ts None) (sym (ap (λ o. mapped (grounded w ms) (after (bound_to (own_meta w 0)) o)) e)) tt

pub term_unbound : (ts : List Tree) (w : Fresh) (ms : List Sym) (s t : Tree) (bs : List Binding) → mgu ms s t ≡ Some bs → None ≡ bound_to (canon_sym w.metas 0) bs → HasTerm ts None (instance_term w ms s t)
unfolding instance_term
term_unbound ts w ms s t bs e b =
    subst (HasTerm ts None) (sym (ap (λ o. mapped (grounded w ms) (after (bound_to (own_meta w 0)) o)) e ∙ ap (mapped (grounded w ms)) (ap (λ f. bound_to f bs) (sym (own-first w)) ∙ sym b))) tt

pub term_some : (ts : List Tree) (w : Fresh) (ms : List Sym) (s t u v z : Tree) (k : ℕ) (bs : List Binding) → mgu ms s t ≡ Some bs → Some u ≡ bound_to (canon_sym w.metas 0) bs → v ≡ u → z ≡ spare_term w → HasTree ts k (assign ms (λ f. z) v) → HasTerm ts (Some k) (instance_term w ms s t)
unfolding instance_term
term_some ts w ms s t u v z k bs e b ev g h =
    subst (HasTerm ts (Some k)) (sym (ap (λ o. mapped (grounded w ms) (after (bound_to (own_meta w 0)) o)) e ∙ ap (mapped (grounded w ms)) (ap (λ f. bound_to f bs) (sym (own-first w)) ∙ sym b)))
    (record { within = h.within; tree = h.tree ∙ (λ i. assign ms (λ f. g i) (ev i)) })
