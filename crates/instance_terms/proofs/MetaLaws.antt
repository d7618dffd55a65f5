-- Lists of metavariables.
use Rattle.std.proofs.Common.{◌≡◌, ℕ, zero, suc, ◌+◌, ◌*◌, List, [], ◌∷◌, ◌++◌, refl, ap, sym, ◌∙◌, arith, append-nil, append_assoc}
use Rattle.core_expr.specs.declared.head.Sym.{Sym}
use Rattle.core_expr.specs.Nodes.{canon_sym}
use Rattle.search_definition.specs.Instances.{Fresh, own_meta, partner_meta, first_metas}
use Rattle.unify_meta.specs.Metas.{symbols}
use Rattle.unify_meta.proofs.MetaLaws.{symbols-append}
use Rattle.instance_terms.specs.Fresh.{meta_from, both_of}

first-same : (f g : ℕ → Sym) (n : ℕ) → ((i : ℕ) → f i ≡ g i) → first_metas f n ≡ first_metas g n
first-same f g zero h = refl
first-same f g (suc n) h = λ i. h n i ∷ first-same f g n h i

-- one more metavariable
pub meta_next : (first left lower number : ℕ) (old new : List ℕ) (all : List Sym) → left ≡ suc lower → number ≡ first + 2 * lower → new ≡ old ++ number ∷ [] → symbols old ++ first_metas (meta_from first) left ≡ all → symbols new ++ first_metas (meta_from first) lower ≡ all
meta_next first left lower number old new all el en e h =
    ap (λ xs. symbols xs ++ first_metas (meta_from first) lower) (e ∙ ap (λ x. old ++ x ∷ []) en)
    ∙ ap (λ fs. fs ++ first_metas (meta_from first) lower) (symbols-append old ((first + 2 * lower) ∷ []))
    ∙ append_assoc (symbols old) (canon_sym (first + 2 * lower) 0 ∷ []) (first_metas (meta_from first) lower)
    ∙ ap (λ n. symbols old ++ first_metas (meta_from first) n) (sym el) ∙ h

pub meta_last : (first left : ℕ) (now : List ℕ) (all : List Sym) → left ≡ 0 → symbols now ++ first_metas (meta_from first) left ≡ all → symbols now ≡ all
meta_last first left now all e h =
    sym (append-nil (symbols now)) ∙ ap (λ n. symbols now ++ first_metas (meta_from first) n) (sym e) ∙ h

pub own_named : (w : Fresh) (n : ℕ) (old new : List ℕ) → old ≡ [] → symbols new ≡ symbols old ++ first_metas (meta_from w.metas) n → symbols new ≡ first_metas (own_meta w) n
own_named w n old new e h = h ∙ ap (λ xs. symbols xs ++ first_metas (meta_from w.metas) n) e

pub both_named : (w : Fresh) (first n m : ℕ) (none old new : List ℕ) → first ≡ w.metas + 1 → none ≡ [] → symbols old ≡ symbols none ++ first_metas (meta_from w.metas) n → symbols new ≡ symbols old ++ first_metas (meta_from first) m → symbols new ≡ both_of w n m
both_named w first n m none old new ef en h g =
    g ∙ (λ i. own_named w n none old en h i ++ first-same (meta_from first) (partner_meta w) m (λ j. ap (λ x. canon_sym x 0) (let z : first + 2 * j ≡ w.metas + (2 * j + 1) = omega arith in z)) i)
