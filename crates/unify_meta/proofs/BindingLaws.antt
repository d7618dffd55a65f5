-- Laws of bindings by indices.
use Rattle.std.proofs.Common.{◌≡◌, ℕ, zero, suc, ◌+◌, ◌<◌, nat_eq, Some, List, [], ◌∷◌, length, get_or, drop, ap, ◌∙◌, arith, subst}
use Rattle.std.proofs.lemmas.List.{drop_more}
use Rattle.core_expr.specs.Tree.{Tree}
use Rattle.core_expr.specs.Nodes.{canon_sym}
use Rattle.core_expr.proofs.Equal.{nat-refl}
use Rattle.unifier_definition.specs.Unify.{bound_to}
use Rattle.unifier_definition.proofs.Substituted.{either}
use Rattle.term_bank.specs.Banks.{tree_at}
use Rattle.unify_meta.specs.declared.binding.BoundMeta.{BoundMeta}
use Rattle.unify_meta.specs.Bindings.{bindings, TermsBelow}
use Rattle.unify_meta.proofs.MetaLaws.{same-constant, no_number}

pub terms_at : (n : ℕ) (bs : List BoundMeta) (k : ℕ) (d : BoundMeta) → TermsBelow n bs → k < length bs → (get_or bs k d).term < n
terms_at n [] k d h l = absurd (omega arith)
terms_at n (b ∷ bs) zero d h l = h.0
terms_at n (b ∷ bs) (suc k) d h l = terms_at n bs k d h.1 (omega arith)

pub terms_tail : (n : ℕ) (bs : List BoundMeta) (k : ℕ) (d : BoundMeta) → k < length bs → TermsBelow n (drop k bs) → TermsBelow n (drop (k + 1) bs)
terms_tail n bs k d l h = (subst (TermsBelow n) (drop_more bs k d l) h).1

-- a binding of another metavariable is passed by
pub bound_past : (name : ℕ) (ts : List Tree) (bs : List BoundMeta) (k : ℕ) (d : BoundMeta) → k < length bs → ((get_or bs k d).name ≡ name → ⊥) → bound_to (canon_sym name 0) (bindings ts (drop k bs)) ≡ bound_to (canon_sym name 0) (bindings ts (drop (k + 1) bs))
bound_past name ts bs k d l ne =
    ap (λ cs. bound_to (canon_sym name 0) (bindings ts cs)) (drop_more bs k d l)
    ∙ ap (λ x. either x (Some (tree_at ts (get_or bs k d).term)) (bound_to (canon_sym name 0) (bindings ts (drop (k + 1) bs)))) (same-constant (get_or bs k d).name name ∙ no_number (get_or bs k d).name name ne)

pub bound_here : (name : ℕ) (ts : List Tree) (bs : List BoundMeta) (k : ℕ) (d : BoundMeta) → k < length bs → (get_or bs k d).name ≡ name → bound_to (canon_sym name 0) (bindings ts (drop k bs)) ≡ Some (tree_at ts (get_or bs k d).term)
bound_here name ts bs k d l e =
    ap (λ cs. bound_to (canon_sym name 0) (bindings ts cs)) (drop_more bs k d l)
    ∙ ap (λ x. either x (Some (tree_at ts (get_or bs k d).term)) (bound_to (canon_sym name 0) (bindings ts (drop (k + 1) bs)))) (same-constant (get_or bs k d).name name ∙ ap (λ x. nat_eq x name) e ∙ nat-refl name)
