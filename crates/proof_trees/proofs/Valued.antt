-- The proofs of values say what they are to say.
use Rattle.std.specs.Prelude.{◌≡◌, Bool, true, false, List, [], ◌∷◌}
use Rattle.std.proofs.Common.{refl, ap, sym, inl, inr}
use Rattle.core_expr.specs.Tree.{Tree, true_, false_, not_, and_, or_, imp_, iff_, eq_}
use Rattle.core_expr.proofs.Equal.{same-true}
use Rattle.seq_calculus.specs.Schemas.{are_apart}
use Rattle.seq_calculus.specs.Calculus.{Proof}
use Rattle.seq_calculus.specs.Calculus.Rule.{Ax, TrueR, AndL, OrR, ImpR}
use Rattle.search_definition.specs.Terms.{if_so, either}
use Rattle.search_definition.specs.Branches.{Branch, formulas, has, is_truth_clash}
use Rattle.search_definition.specs.Values.{Truth, opposite, both_true, one_true, same_truth, implied, is_plainly_true, is_plainly_false, has_mirror, has_not_mirror, whole, truth_by, truth}
use Rattle.search_definition.specs.Values.Truth.{Yes, No, Unknown}
use Rattle.search_definition.specs.Values.Whole.{Stands, ByItself, Mirrored, NotStands, FalseItself, NotMirrored, Undecided}
use Rattle.search_definition.proofs.Standing.{has-stands}
use Rattle.proof_writer.specs.Shapes.{leaf, over}
use Rattle.proof_trees.specs.Says.{Says}
use Rattle.proof_trees.specs.Closings.{apart, truths, mirror_clash}
use Rattle.proof_trees.specs.Valued.{itself_by, mirrored_by, false_by, whole_by, not_by, and_by, or_by, imp_by, iff_by, shows}
use Rattle.proof_trees.proofs.Had.{HasAll-cons, HasAll-itself, HasAll-one}
use Rattle.proof_trees.proofs.Said.{narrower, says_under, says_beside, says_ax, says_true, says_false, says_refl, says_not_l, says_not_r, says_and_l, says_and_r, says_or_l, says_or_r, says_imp_l, says_imp_r, says_iff_l, says_iff_r, says_clash}
use Rattle.proof_trees.proofs.Replaced.{says_mirror}
use Rattle.proof_trees.proofs.Closed.{apart-says, clash-says, mirror-says}

-- the proof shows the value
abbrev pub Shows : Truth → Proof → List Tree → Tree → Type 0
Shows Yes p us f = Says p us (f ∷ [])
Shows No p us f = Says p (f ∷ us) []
Shows Unknown p us f = Unit {0}

itself-says : (us : List Tree) (f : Tree) → is_plainly_true f ≡ true → Says (itself_by f) us (f ∷ [])
itself-says us true_ e = says_true us (true_ ∷ []) (inl refl)
itself-says us (eq_ s t) e = says_refl us (eq_ s t ∷ []) s (inl (ap (eq_ s) (sym (same-true s t e))))
itself-says us _ e = cc

mirrored-says : (b : Branch) (f : Tree) → has_mirror b f ≡ true → Says (mirrored_by f) (formulas b) (f ∷ [])
mirrored-says b (eq_ s t) e = says_mirror (leaf (Ax (eq_ s t))) (formulas b) (eq_ s t ∷ []) t s (has-stands b (eq_ t s) e) (says_ax (eq_ s t ∷ formulas b) (eq_ s t ∷ []) (eq_ s t) (inl refl) (inl refl))
mirrored-says b _ e = cc

false-says : (us : List Tree) (f : Tree) → is_plainly_false f ≡ true → Says (false_by f) (f ∷ us) []
false-says us false_ e = says_false (false_ ∷ us) [] (inl refl)
false-says us (eq_ s t) e = go (are_apart s t) refl e
  where
    go : (x : Bool) → are_apart s t ≡ x → either x (is_truth_clash s t) ≡ true → Says (if_so x (apart (eq_ s t)) (truths (eq_ s t))) (eq_ s t ∷ us) []
    go true d e = apart-says (eq_ s t ∷ us) s t d (inl refl)
    go false d e = clash-says (eq_ s t ∷ us) s t e (inl refl)
false-says us _ e = cc

not-mirrored-says : (b : Branch) (f : Tree) → has_not_mirror b f ≡ true → Says (mirror_clash f) (f ∷ formulas b) []
not-mirrored-says b (eq_ s t) e = mirror-says (eq_ s t ∷ formulas b) s t (inl refl) (inr (has-stands b (not_ (eq_ t s)) e))
not-mirrored-says b _ e = cc

-- a value as a whole, or else that of the connective
whole-shown : (b : Branch) (f : Tree) (y : Truth) (p : Proof) → Shows y p (formulas b) f → Shows (truth_by (whole b f) y) (whole_by (whole b f) f p) (formulas b) f
whole-shown b f y p h = go (has b f) refl (is_plainly_true f) refl (has_mirror b f) refl (has b (not_ f)) refl (is_plainly_false f) refl (has_not_mirror b f) refl
  where
    go : (p1 : Bool) → has b f ≡ p1 → (p2 : Bool) → is_plainly_true f ≡ p2 → (p3 : Bool) → has_mirror b f ≡ p3 → (p4 : Bool) → has b (not_ f) ≡ p4 → (p5 : Bool) → is_plainly_false f ≡ p5 → (p6 : Bool) → has_not_mirror b f ≡ p6
        → (let w = if_so p1 Stands (if_so p2 ByItself (if_so p3 Mirrored (if_so p4 NotStands (if_so p5 FalseItself (if_so p6 NotMirrored Undecided))))) in Shows (truth_by w y) (whole_by w f p) (formulas b) f)
    go true e1 p2 e2 p3 e3 p4 e4 p5 e5 p6 e6 = says_ax (formulas b) (f ∷ []) f (has-stands b f e1) (inl refl)
    go false e1 true e2 p3 e3 p4 e4 p5 e5 p6 e6 = itself-says (formulas b) f e2
    go false e1 false e2 true e3 p4 e4 p5 e5 p6 e6 = mirrored-says b f e3
    go false e1 false e2 false e3 true e4 p5 e5 p6 e6 = says_clash (f ∷ formulas b) [] f (inl refl) (inr (has-stands b (not_ f) e4))
    go false e1 false e2 false e3 false e4 true e5 p6 e6 = false-says (formulas b) f e5
    go false e1 false e2 false e3 false e4 false e5 true e6 = not-mirrored-says b f e6
    go false e1 false e2 false e3 false e4 false e5 false e6 = h

-- one more behind the first
under_first : (p : Proof) (us vs : List Tree) (x y : Tree) → Says p (x ∷ us) vs → Says p (x ∷ y ∷ us) vs
under_first p us vs x y k = narrower p (x ∷ y ∷ us) vs (x ∷ us) vs (inl refl, HasAll-cons x (y ∷ us) us (HasAll-one y us)) (HasAll-itself vs) k

beside_first : (p : Proof) (us vs : List Tree) (x y : Tree) → Says p us (x ∷ vs) → Says p us (x ∷ y ∷ vs)
beside_first p us vs x y k = narrower p us (x ∷ y ∷ vs) us (x ∷ vs) (HasAll-itself us) (inl refl, HasAll-cons x (y ∷ vs) vs (HasAll-one y vs)) k

module _ (us : List Tree) where
  not-shown : (t : Truth) (a : Tree) (p : Proof) → Shows t p us a → Shows (opposite t) (not_by t a p) us (not_ a)
  not-shown Yes a p h = says_not_l p (not_ a ∷ us) [] a (inl refl) (says_under p us (a ∷ []) (not_ a) h)
  not-shown No a p h = says_not_r p us (not_ a ∷ []) a (inl refl) (says_beside p (a ∷ us) [] (not_ a) h)
  not-shown Unknown a p h = tt

  module _ (a b : Tree) (p q : Proof) where
    and-left : Says p (a ∷ us) [] → Says (over (AndL a b) p) (and_ a b ∷ us) []
    and-left h = says_and_l p (and_ a b ∷ us) [] a b (inl refl) (narrower p (a ∷ b ∷ and_ a b ∷ us) [] (a ∷ us) [] (inl refl, HasAll-cons a (b ∷ and_ a b ∷ us) us (HasAll-cons b (and_ a b ∷ us) us (HasAll-one (and_ a b) us))) tt h)

    and-right : Says q (b ∷ us) [] → Says (over (AndL a b) q) (and_ a b ∷ us) []
    and-right h = says_and_l q (and_ a b ∷ us) [] a b (inl refl) (narrower q (a ∷ b ∷ and_ a b ∷ us) [] (b ∷ us) [] (inr (inl refl), HasAll-cons a (b ∷ and_ a b ∷ us) us (HasAll-cons b (and_ a b ∷ us) us (HasAll-one (and_ a b) us))) tt h)

    and-shown : (x y : Truth) → Shows x p us a → Shows y q us b → Shows (both_true x y) (and_by x y a b p q) us (and_ a b)
    and-shown No y h k = and-left h
    and-shown Yes Yes h k = says_and_r p q us (and_ a b ∷ []) a b (inl refl) (beside_first p us [] a (and_ a b) h) (beside_first q us [] b (and_ a b) k)
    and-shown Yes No h k = and-right k
    and-shown Yes Unknown h k = tt
    and-shown Unknown No h k = and-right k
    and-shown Unknown Yes h k = tt
    and-shown Unknown Unknown h k = tt

    or-left : Says p us (a ∷ []) → Says (over (OrR a b) p) us (or_ a b ∷ [])
    or-left h = says_or_r p us (or_ a b ∷ []) a b (inl refl) (narrower p us (a ∷ b ∷ or_ a b ∷ []) us (a ∷ []) (HasAll-itself us) (inl refl, tt) h)

    or-right : Says q us (b ∷ []) → Says (over (OrR a b) q) us (or_ a b ∷ [])
    or-right h = says_or_r q us (or_ a b ∷ []) a b (inl refl) (narrower q us (a ∷ b ∷ or_ a b ∷ []) us (b ∷ []) (HasAll-itself us) (inr (inl refl), tt) h)

    or-shown : (x y : Truth) → Shows x p us a → Shows y q us b → Shows (one_true x y) (or_by x y a b p q) us (or_ a b)
    or-shown Yes y h k = or-left h
    or-shown No No h k = says_or_l p q (or_ a b ∷ us) [] a b (inl refl) (under_first p us [] a (or_ a b) h) (under_first q us [] b (or_ a b) k)
    or-shown No Yes h k = or-right k
    or-shown No Unknown h k = tt
    or-shown Unknown Yes h k = or-right k
    or-shown Unknown No h k = tt
    or-shown Unknown Unknown h k = tt

    imp-left : Says p (a ∷ us) [] → Says (over (ImpR a b) p) us (imp_ a b ∷ [])
    imp-left h = says_imp_r p us (imp_ a b ∷ []) a b (inl refl) (narrower p (a ∷ us) (b ∷ imp_ a b ∷ []) (a ∷ us) [] (HasAll-itself (a ∷ us)) tt h)

    imp-right : Says q us (b ∷ []) → Says (over (ImpR a b) q) us (imp_ a b ∷ [])
    imp-right h = says_imp_r q us (imp_ a b ∷ []) a b (inl refl) (narrower q (a ∷ us) (b ∷ imp_ a b ∷ []) us (b ∷ []) (HasAll-one a us) (inl refl, tt) h)

    imp-shown : (x y : Truth) → Shows x p us a → Shows y q us b → Shows (implied x y) (imp_by x y a b p q) us (imp_ a b)
    imp-shown No y h k = imp-left h
    imp-shown Yes No h k = says_imp_l p q (imp_ a b ∷ us) [] a b (inl refl) (says_under p us (a ∷ []) (imp_ a b) h) (under_first q us [] b (imp_ a b) k)
    imp-shown Yes Yes h k = imp-right k
    imp-shown Yes Unknown h k = tt
    imp-shown Unknown Yes h k = imp-right k
    imp-shown Unknown No h k = tt
    imp-shown Unknown Unknown h k = tt

    iff-shown : (x y : Truth) → Shows x p us a → Shows y q us b → Shows (same_truth x y) (iff_by x y a b p q) us (iff_ a b)
    iff-shown Yes Yes h k = says_iff_r q p us (iff_ a b ∷ []) a b (inl refl) (says_under q us (b ∷ iff_ a b ∷ []) a (beside_first q us [] b (iff_ a b) k)) (says_under p us (a ∷ iff_ a b ∷ []) b (beside_first p us [] a (iff_ a b) h))
    iff-shown No No h k =
        says_iff_r p q us (iff_ a b ∷ []) a b (inl refl) (narrower p (a ∷ us) (b ∷ iff_ a b ∷ []) (a ∷ us) [] (HasAll-itself (a ∷ us)) tt h) (narrower q (b ∷ us) (a ∷ iff_ a b ∷ []) (b ∷ us) [] (HasAll-itself (b ∷ us)) tt k)
    iff-shown Yes No h k =
        says_iff_l q p (iff_ a b ∷ us) [] a b (inl refl) (narrower q (a ∷ b ∷ iff_ a b ∷ us) [] (b ∷ us) [] (inr (inl refl), HasAll-cons a (b ∷ iff_ a b ∷ us) us (HasAll-cons b (iff_ a b ∷ us) us (HasAll-one (iff_ a b) us))) tt k)
        (narrower p (iff_ a b ∷ us) (a ∷ b ∷ []) us (a ∷ []) (HasAll-one (iff_ a b) us) (inl refl, tt) h)
    iff-shown No Yes h k =
        says_iff_l p q (iff_ a b ∷ us) [] a b (inl refl) (narrower p (a ∷ b ∷ iff_ a b ∷ us) [] (a ∷ us) [] (inl refl, HasAll-cons a (b ∷ iff_ a b ∷ us) us (HasAll-cons b (iff_ a b ∷ us) us (HasAll-one (iff_ a b) us))) tt h)
        (narrower q (iff_ a b ∷ us) (a ∷ b ∷ []) us (b ∷ []) (HasAll-one (iff_ a b) us) (inr (inl refl), tt) k)
    iff-shown Yes Unknown h k = tt
    iff-shown No Unknown h k = tt
    iff-shown Unknown y h k = tt

-- a formula's proof shows its value
pub value-shown : (b : Branch) (f : Tree) → Shows (truth b f) (shows b f) (formulas b) f
unfolding truth shows
value-shown b (not_ a) = whole-shown b (not_ a) (opposite (truth b a)) (not_by (truth b a) a (shows b a)) (not-shown (formulas b) (truth b a) a (shows b a) (value-shown b a))
value-shown b (and_ x y) =
    whole-shown b (and_ x y) (both_true (truth b x) (truth b y)) (and_by (truth b x) (truth b y) x y (shows b x) (shows b y))
    (and-shown (formulas b) x y (shows b x) (shows b y) (truth b x) (truth b y) (value-shown b x) (value-shown b y))
value-shown b (or_ x y) =
    whole-shown b (or_ x y) (one_true (truth b x) (truth b y)) (or_by (truth b x) (truth b y) x y (shows b x) (shows b y))
    (or-shown (formulas b) x y (shows b x) (shows b y) (truth b x) (truth b y) (value-shown b x) (value-shown b y))
value-shown b (imp_ x y) =
    whole-shown b (imp_ x y) (implied (truth b x) (truth b y)) (imp_by (truth b x) (truth b y) x y (shows b x) (shows b y))
    (imp-shown (formulas b) x y (shows b x) (shows b y) (truth b x) (truth b y) (value-shown b x) (value-shown b y))
value-shown b (iff_ x y) =
    whole-shown b (iff_ x y) (same_truth (truth b x) (truth b y)) (iff_by (truth b x) (truth b y) x y (shows b x) (shows b y))
    (iff-shown (formulas b) x y (shows b x) (shows b y) (truth b x) (truth b y) (value-shown b x) (value-shown b y))
value-shown b f = whole-shown b f Unknown (leaf TrueR) tt
