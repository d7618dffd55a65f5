-- Each closing's proof is correct over its formulas.
use Rattle.std.specs.Prelude.{◌≡◌, Bool, true, false, cond, Option, Some, None, List, [], ◌∷◌, ◌++◌}
use Rattle.std.proofs.Common.{refl, ap, sym, subst, arith, inl, inr}
use Rattle.core_expr.specs.Tree.{Tree, true_, false_, not_, eq_}
use Rattle.core_expr.specs.Tree.Tree.{bound}
use Rattle.core_expr.specs.Terms.{same}
use Rattle.core_expr.proofs.Equal.{same-true}
use Rattle.seq_calculus.specs.Schemas.{are_apart}
use Rattle.seq_calculus.specs.Calculus.{Has}
use Rattle.seq_calculus.specs.Calculus.Rule.{Ax, TrueR, FalseL, Refl, Repl}
use Rattle.search_definition.specs.declared.rule.Clash.TheVariants.{Denied, DeniedIdentity, DeniedMirror, Literals, Truths}
use Rattle.search_definition.specs.Terms.{if_so, either, when, or_else, first_some}
use Rattle.search_definition.specs.Branches.{Branch, formulas, is_truth_clash, Closing, shuts_first, shuts_third, shuts_last, is_not_of, is_mirror_not, alone, partner, closes_with, closing_from, closing}
use Rattle.search_definition.proofs.Standing.{Holds, held, or-holds, first-holds, each}
use Rattle.proof_writer.specs.Shapes.{leaf, over, clash, mirror}
use Rattle.proof_trees.specs.Says.{Says}
use Rattle.proof_trees.specs.Closings.{mirror_clash, apart, true_is_false, truths, closing_by}
use Rattle.proof_trees.proofs.Said.{says_ax, says_true, says_false, says_refl, says_cut, says_not_l, says_repl, says_schema, says_clash, under_closed}
use Rattle.proof_trees.proofs.Replaced.{says_mirror}

abbrev Shown : Closing → Type 0
Shown c = Says (closing_by c) c.entries []

first-shown : (f : Tree) → Holds Shown (alone f (shuts_first f))
first-shown false_ = says_false (false_ ∷ []) [] (inl refl)
first-shown (not_ true_) = says_not_l (leaf TrueR) (not_ true_ ∷ []) [] true_ (inl refl) (says_true (not_ true_ ∷ []) (true_ ∷ []) (inl refl))
first-shown _ = tt

third-shown : (f : Tree) → Holds Shown (alone f (shuts_third f))
third-shown (not_ (eq_ s t)) = go (same s t) refl
  where
    go : (x : Bool) → same s t ≡ x → Holds Shown (alone (not_ (eq_ s t)) (when x DeniedIdentity))
    go true e =
        says_not_l (leaf (Refl s)) (not_ (eq_ s t) ∷ []) [] (eq_ s t) (inl refl)
        (says_refl (not_ (eq_ s t) ∷ []) (eq_ s t ∷ []) s (inl (ap (eq_ s) (sym (same-true s t e)))))
    go false e = tt
third-shown _ = tt

true_false : (us : List Tree) → Has us (eq_ true_ false_) → Says true_is_false us []
true_false us h =
    says_cut (leaf TrueR) (over (Repl (bound 0) true_ false_) (leaf FalseL)) us [] true_ tt (says_true us (true_ ∷ []) (inl refl))
    (says_repl (leaf FalseL) (true_ ∷ us) [] (bound 0) true_ false_ (inr h) (inl refl) (omega arith) (says_false (false_ ∷ true_ ∷ us) [] (inl refl)))

pub clash-says : (us : List Tree) (s t : Tree) → is_truth_clash s t ≡ true → Has us (eq_ s t) → Says (truths (eq_ s t)) us []
clash-says us true_ false_ e h = true_false us h
clash-says us false_ true_ e h = says_mirror true_is_false us [] false_ true_ h (true_false (eq_ true_ false_ ∷ us) (inl refl))
clash-says us _ _ e h = cc

pub apart-says : (us : List Tree) (s t : Tree) → are_apart s t ≡ true → Has us (eq_ s t) → Says (apart (eq_ s t)) us []
apart-says us s t e h =
    under_closed (apart (eq_ s t)) us [] (eq_ s t) h
    (λ c. says_schema (clash (eq_ s t)) us [] 22 0 (s ∷ t ∷ []) (not_ (eq_ s t)) (c, tt) (ap (λ x. cond x (Some (not_ (eq_ s t))) None) e) (says_clash (not_ (eq_ s t) ∷ us) [] (eq_ s t) (inr h) (inl refl)))

pub mirror-says : (us : List Tree) (s t : Tree) → Has us (eq_ s t) → Has us (not_ (eq_ t s)) → Says (mirror_clash (eq_ s t)) us []
mirror-says us s t h l =
    says_not_l (mirror s t (leaf (Ax (eq_ t s)))) us [] (eq_ t s) l
    (says_mirror (leaf (Ax (eq_ t s))) us (eq_ t s ∷ []) s t h (says_ax (eq_ t s ∷ us) (eq_ t s ∷ []) (eq_ t s) (inl refl) (inl refl)))

last-shown : (f : Tree) → Holds Shown (alone f (shuts_last f))
last-shown (eq_ s t) = first (are_apart s t) refl
  where
    second : (x : Bool) → is_truth_clash s t ≡ x → Holds Shown (alone (eq_ s t) (when x Truths))
    second true e = clash-says (eq_ s t ∷ []) s t e (inl refl)
    second false e = tt

    first : (x : Bool) → are_apart s t ≡ x → Holds Shown (alone (eq_ s t) (or_else (when x Literals) (when (is_truth_clash s t) Truths)))
    first true e = apart-says (eq_ s t ∷ []) s t e (inl refl)
    first false e = second (is_truth_clash s t) refl
last-shown _ = tt

-- one is the Not of the other
not_of : (us : List Tree) (x y : Tree) → is_not_of x y ≡ true → Has us x → Has us y → Says (clash y) us []
not_of us (not_ a) y e h k = says_clash us [] y k (subst (λ z. Has us (not_ z)) (same-true a y e) h)
not_of us _ y e h k = cc

mirror_of : (us : List Tree) (x y : Tree) → is_mirror_not x y ≡ true → Has us x → Has us y → Says (mirror_clash x) us []
mirror_of us (eq_ s t) (not_ (eq_ u v)) e h k = go (same s v) refl (same t u) refl e
  where
    go : (p : Bool) → same s v ≡ p → (q : Bool) → same t u ≡ q → if_so p q false ≡ true → Says (mirror_clash (eq_ s t)) us []
    go true d true c e = mirror-says us s t h (subst (Has us) (λ i. not_ (eq_ (sym (same-true t u c) i) (sym (same-true s v d) i))) k)
    go true d false c e = cc
    go false d q c e = cc
mirror_of us _ _ e h k = cc

when-shown : (x : Bool) (c : Closing) → (x ≡ true → Shown c) → Holds Shown (when x c)
when-shown true c h = h refl
when-shown false c h = tt

not-shown : (f g : Tree) → Holds Shown (partner Denied is_not_of f g)
not-shown f g = when-shown (either (is_not_of f g) (is_not_of g f)) (record { clash = Denied; entries = f ∷ g ∷ [] }) (go (is_not_of f g) refl (is_not_of g f) refl)
  where
    go : (x : Bool) → is_not_of f g ≡ x → (y : Bool) → is_not_of g f ≡ y → either x y ≡ true → Says (if_so x (clash g) (clash f)) (f ∷ g ∷ []) []
    go true e y d h = not_of (f ∷ g ∷ []) f g e (inl refl) (inr (inl refl))
    go false e true d h = not_of (f ∷ g ∷ []) g f d (inr (inl refl)) (inl refl)
    go false e false d h = cc

mirror-shown : (f g : Tree) → Holds Shown (partner DeniedMirror is_mirror_not f g)
mirror-shown f g = when-shown (either (is_mirror_not f g) (is_mirror_not g f)) (record { clash = DeniedMirror; entries = f ∷ g ∷ [] }) (go (is_mirror_not f g) refl (is_mirror_not g f) refl)
  where
    go : (x : Bool) → is_mirror_not f g ≡ x → (y : Bool) → is_mirror_not g f ≡ y → either x y ≡ true → Says (if_so x (mirror_clash f) (mirror_clash g)) (f ∷ g ∷ []) []
    go true e y d h = mirror_of (f ∷ g ∷ []) f g e (inl refl) (inr (inl refl))
    go false e true d h = mirror_of (f ∷ g ∷ []) g f d (inr (inl refl)) (inl refl)
    go false e false d h = cc

some-shown : (r : Tree → Option Closing) → ((g : Tree) → Holds Shown (r g)) → (gs : List Tree) → Holds Shown (first_some r gs)
some-shown r h gs = first-holds Shown r (λ g. Unit {0}) (λ g k. h g) gs (each (λ g. Unit {0}) (λ g. tt) gs)

closes-shown : (older : List Tree) (f : Tree) → Holds Shown (closes_with older f)
closes-shown older f =
    or-holds Shown (alone f (shuts_first f)) _ (first-shown f)
    (or-holds Shown (first_some (partner Denied is_not_of f) older) _ (some-shown (partner Denied is_not_of f) (not-shown f) older)
    (or-holds Shown (alone f (shuts_third f)) _ (third-shown f)
    (or-holds Shown (first_some (partner DeniedMirror is_mirror_not f) older) _ (some-shown (partner DeniedMirror is_mirror_not f) (mirror-shown f) older) (last-shown f))))

from-shown : (older fs : List Tree) → Holds Shown (closing_from older fs)
from-shown older [] = tt
from-shown older (f ∷ fs) = or-holds Shown (closes_with older f) _ (closes-shown older f) (from-shown (older ++ f ∷ []) fs)

pub closing-says : (b : Branch) (c : Closing) → closing b ≡ Some c → Says (closing_by c) c.entries []
unfolding closing
closing-says b c e = held Shown (closing_from [] (formulas b)) c e (from-shown [] (formulas b))
