-- Marks of formulas, and lists of used formulas.
use Rattle.std.specs.Prelude.{◌≡◌, Bool, true, false, ◌||◌, List, [], ◌∷◌, ◌++◌, ◌⊎◌}
use Rattle.std.proofs.Common.{refl, ap, sym, ◌∙◌, subst, inl, inr}
use Rattle.core_expr.specs.Tree.{Tree}
use Rattle.core_expr.specs.Terms.{same}
use Rattle.core_expr.proofs.Equal.{same-refl, same-true}
use Rattle.seq_calculus.specs.Calculus.{Has}
use Rattle.search_definition.specs.Terms.{if_so, either, in_list}
use Rattle.search_definition.specs.Branches.{Branch, formulas, has}
use Rattle.search_definition.specs.Trees.{newly, minus, meets}
use Rattle.search_definition.proofs.Standing.{has-stands}
use Rattle.proof_trees.specs.Machine.{some}
use Rattle.proof_trees.proofs.Had.{in_list-sound, in_list-has, has-complete, true_not_false}

-- two tests that tell the same
pub one_truth : (x y : Bool) → (x ≡ true → y ≡ true) → (y ≡ true → x ≡ true) → x ≡ y
one_truth true true f g = refl
one_truth true false f g = sym (f refl)
one_truth false true f g = g refl
one_truth false false f g = refl

pub or-cases : (x y : Bool) → (x || y) ≡ true → (x ≡ true) ⊎ (y ≡ true)
or-cases true y e = inl refl
or-cases false y e = inr e

pub or-left : (x y : Bool) → x ≡ true → (x || y) ≡ true
or-left true y e = refl
or-left false y e = absurd (true_not_false (sym e))

pub or-right : (x y : Bool) → y ≡ true → (x || y) ≡ true
or-right true y e = refl
or-right false y e = e

pub or-empty : (x y : Bool) → y ≡ false → (x || y) ≡ x
or-empty true y e = refl
or-empty false y e = e

pub or-or : (x y z : Bool) → ((x || y) || z) ≡ (x || (y || z))
or-or true y z = refl
or-or false y z = refl

pub in-append : (us vs : List Tree) (f : Tree) → in_list (us ++ vs) f ≡ (in_list us f || in_list vs f)
in-append [] vs f = refl
in-append (u ∷ us) vs f = go (same u f) (in-append us vs f)
  where
    go : (x : Bool) → in_list (us ++ vs) f ≡ (in_list us f || in_list vs f) → either x (in_list (us ++ vs) f) ≡ (either x (in_list us f) || in_list vs f)
    go true e = refl
    go false e = e

pub in-minus : (us ns : List Tree) (f : Tree) → in_list (minus us ns) f ≡ if_so (in_list ns f) false (in_list us f)
in-minus [] ns f = go (in_list ns f)
  where
    go : (x : Bool) → ◌≡◌ {A = Bool} false (if_so x false false)
    go true = refl
    go false = refl
in-minus (u ∷ us) ns f = go (in_list ns u) refl (same u f) refl (in-minus us ns f)
  where
    inner : (y : Bool) → same u f ≡ y → in_list ns u ≡ false → in_list (minus us ns) f ≡ if_so (in_list ns f) false (in_list us f)
        → ◌≡◌ {A = Bool} (either y (in_list (minus us ns) f)) (if_so (in_list ns f) false (either y (in_list us f)))
    inner true q e ih = sym (ap (λ x. if_so x false true) (subst (λ z. in_list ns z ≡ false) (same-true u f q) e))
    inner false q e ih = ih

    go : (x : Bool) → in_list ns u ≡ x → (y : Bool) → same u f ≡ y → in_list (minus us ns) f ≡ if_so (in_list ns f) false (in_list us f)
        → in_list (if_so x (minus us ns) (u ∷ minus us ns)) f ≡ if_so (in_list ns f) false (either y (in_list us f))
    go true e true q ih = ih ∙ (λ i. if_so (f_in i) false (in_list us f)) ∙ sym (λ i. if_so (f_in i) false true)
      where
        f_in : in_list ns f ≡ true
        f_in = subst (λ z. in_list ns z ≡ true) (same-true u f q) e
    go true e false q ih = ih
    go false e y q ih = ap (λ b. either b (in_list (minus us ns) f)) q ∙ inner y q e ih

pub meets-from : (us ns : List Tree) (f : Tree) → Has ns f → in_list us f ≡ true → meets us ns ≡ true
meets-from [] ns f h e = absurd (true_not_false (sym e))
meets-from (u ∷ us) ns f h e = go (in_list ns u) refl (same u f) refl e (meets-from us ns f h)
  where
    go : (x : Bool) → in_list ns u ≡ x → (y : Bool) → same u f ≡ y → either y (in_list us f) ≡ true → (in_list us f ≡ true → meets us ns ≡ true) → either x (meets us ns) ≡ true
    go true d y q e ih = refl
    go false d true q e ih = absurd (true_not_false (sym (subst (λ z. in_list ns z ≡ true) (sym (same-true u f q)) (in_list-has ns f h)) ∙ d))
    go false d false q e ih = ih e

meets-some : (m : Tree → Bool) (us ns : List Tree) → ((f : Tree) → in_list us f ≡ true → m f ≡ true) → meets us ns ≡ true → some m ns ≡ true
meets-some m [] ns h e = absurd (true_not_false (sym e))
meets-some m (u ∷ us) ns h e = go (in_list ns u) refl e (meets-some m us ns (λ f k. h f (there f (same u f) k)))
  where
    there : (f : Tree) (x : Bool) → in_list us f ≡ true → either x (in_list us f) ≡ true
    there f true k = refl
    there f false k = k

    some-from : (xs : List Tree) (f : Tree) → Has xs f → m f ≡ true → some m xs ≡ true
    some-from [] f h k = absurd h
    some-from (x ∷ xs) f (inl q) k = or-left (m x) (some m xs) (subst (λ z. m z ≡ true) (sym q) k)
    some-from (x ∷ xs) f (inr h) k = or-right (m x) (some m xs) (some-from xs f h k)

    go : (x : Bool) → in_list ns u ≡ x → either x (meets us ns) ≡ true → (meets us ns ≡ true → some m ns ≡ true) → some m ns ≡ true
    go true d e ih = some-from ns u (in_list-sound ns u d) (h u (ap (λ x. either x (in_list us u)) (same-refl u)))
    go false d e ih = ih e

some-meets : (m : Tree → Bool) (us ns xs : List Tree) → ((f : Tree) → Has ns f → m f ≡ true → in_list us f ≡ true) → ((f : Tree) → Has xs f → Has ns f) → some m xs ≡ true → meets us ns ≡ true
some-meets m us ns [] h k e = absurd (true_not_false (sym e))
some-meets m us ns (x ∷ xs) h k e = elim (or-cases (m x) (some m xs) e) [
  | inl q ↦ meets-from us ns x (k x (inl refl)) (h x (k x (inl refl)) q)
  | inr q ↦ some-meets m us ns xs h (λ f l. k f (inr l)) q
]

-- where the marks are us and more, and the more are none of ns
pub some-is : (m n : Tree → Bool) (us ns : List Tree) → ((f : Tree) → m f ≡ (in_list us f || n f)) → ((f : Tree) → Has ns f → n f ≡ false) → some m ns ≡ meets us ns
some-is m n us ns e off =
    one_truth (some m ns) (meets us ns)
    (some-meets m us ns ns (λ f h q. sym (or-empty (in_list us f) (n f) (off f h)) ∙ sym (e f) ∙ q) (λ f h. h))
    (meets-some m us ns (λ f q. e f ∙ or-left (in_list us f) (n f) q))

-- what is newly added does not stand
pub newly-off : (b : Branch) (fs : List Tree) (f : Tree) → Has (newly b fs) f → Has (formulas b) f → ⊥
newly-off b [] f h k = h
newly-off b (x ∷ fs) f h k = go (has b x) refl h (λ l. newly-off b fs f l k)
  where
    go : (v : Bool) → has b x ≡ v → Has (if_so v (newly b fs) (x ∷ newly b fs)) f → (Has (newly b fs) f → ⊥) → ⊥
    go true e h ih = ih h
    go false e (inl q) ih = true_not_false (sym (has-complete b x (subst (Has (formulas b)) (sym q) k)) ∙ e)
    go false e (inr h) ih = ih h

-- what is added is new or stands
pub newly-has : (b : Branch) (fs : List Tree) (f : Tree) → Has fs f → Has (newly b fs) f ⊎ Has (formulas b) f
newly-has b [] f h = absurd h
newly-has b (x ∷ fs) f h = go (has b x) refl h (newly-has b fs f)
  where
    go : (v : Bool) → has b x ≡ v → Has (x ∷ fs) f → (Has fs f → Has (newly b fs) f ⊎ Has (formulas b) f) → Has (if_so v (newly b fs) (x ∷ newly b fs)) f ⊎ Has (formulas b) f
    go true e (inl q) ih = inr (has-stands b f (subst (λ z. has b z ≡ true) q e))
    go true e (inr h) ih = ih h
    go false e (inl q) ih = inl (inl q)
    go false e (inr h) ih = elim (ih h) [ inl k ↦ inl (inr k) | inr k ↦ inr k ]
