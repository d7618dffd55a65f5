-- Lists of formulas that a sequent has.
use Rattle.std.specs.Prelude.{◌≡◌, ℕ, suc, Bool, true, false, ◌⊎◌, List, [], ◌∷◌, ◌++◌}
use Rattle.std.proofs.Common.{refl, ap, sym, subst, arith, inl, inr}
use Rattle.core_expr.specs.Tree.{Tree}
use Rattle.core_expr.specs.Terms.{same}
use Rattle.core_expr.specs.Put.{inst, IsScoped}
use Rattle.core_expr.proofs.Equal.{same-refl, same-true}
use Rattle.seq_calculus.specs.Calculus.{Has, HasAll, IsClosed, AllClosed}
use Rattle.search_definition.specs.Terms.{either, in_list}
use Rattle.search_definition.specs.Branches.{Branch, formulas, has}
use Rattle.search_definition.proofs.Lefts.{put_scoped, scoped_more}
use Rattle.search_definition.proofs.Standing.{closed-of}

pub HasAll-cons : (x : Tree) (g us : List Tree) → HasAll g us → HasAll (x ∷ g) us
HasAll-cons x g [] h = tt
HasAll-cons x g (u ∷ us) h = (inr h.0, HasAll-cons x g us h.1)

pub HasAll-itself : (us : List Tree) → HasAll us us
HasAll-itself [] = tt
HasAll-itself (u ∷ us) = (inl refl, HasAll-cons u us us (HasAll-itself us))

pub HasAll-one : (x : Tree) (us : List Tree) → HasAll (x ∷ us) us
HasAll-one x us = HasAll-cons x us us (HasAll-itself us)

pub HasAll-more : (xs us : List Tree) → HasAll (xs ++ us) us
HasAll-more [] us = HasAll-itself us
HasAll-more (x ∷ xs) us = HasAll-cons x (xs ++ us) us (HasAll-more xs us)

pub HasAll-front : (us xs : List Tree) → HasAll (us ++ xs) us
HasAll-front [] xs = tt
HasAll-front (u ∷ us) xs = (inl refl, HasAll-cons u (us ++ xs) us (HasAll-front us xs))

pub HasAll-append : (g xs ys : List Tree) → HasAll g xs → HasAll g ys → HasAll g (xs ++ ys)
HasAll-append g [] ys h k = k
HasAll-append g (x ∷ xs) ys h k = (h.0, HasAll-append g xs ys h.1 k)

pub HasAll-split : (g xs ys : List Tree) → HasAll g (xs ++ ys) → HasAll g xs × HasAll g ys
HasAll-split g [] ys h = (tt, h)
HasAll-split g (x ∷ xs) ys h = let k = HasAll-split g xs ys h.1 in ((h.0, k.0), k.1)

pub has_of : (g us : List Tree) (f : Tree) → HasAll g us → Has us f → Has g f
has_of g [] f h k = absurd k
has_of g (u ∷ us) f h (inl e) = subst (Has g) e h.0
has_of g (u ∷ us) f h (inr k) = has_of g us f h.1 k

pub all_of : (g us vs : List Tree) → HasAll g us → HasAll us vs → HasAll g vs
all_of g us [] h k = tt
all_of g us (v ∷ vs) h k = (has_of g us v h k.0, all_of g us vs h k.1)

pub Closed-all : (g us : List Tree) → AllClosed g → HasAll g us → AllClosed us
Closed-all g [] c h = tt
Closed-all g (u ∷ us) c h = (closed-of g u c h.0, Closed-all g us c h.1)

pub Has-in : (l g : List Tree) (f : Tree) → Has l f → Has (l ++ g) f
Has-in [] g f h = absurd h
Has-in (x ∷ l) g f (inl q) = inl q
Has-in (x ∷ l) g f (inr h) = inr (Has-in l g f h)

pub Has-split : (l g : List Tree) (f : Tree) → Has (l ++ g) f → Has l f ⊎ Has g f
Has-split [] g f h = inr h
Has-split (x ∷ l) g f (inl q) = inl (inl q)
Has-split (x ∷ l) g f (inr h) = elim (Has-split l g f h) [ inl k ↦ inl (inr k) | inr k ↦ inr k ]

pub inst_closed : (p t : Tree) → IsClosed t → IsClosed (inst p t)
inst_closed p t h = put_scoped 0 p t h

pub loosen : (n : ℕ) (e : Tree) → IsScoped n e → IsScoped (suc n) e
loosen n e h = scoped_more n (suc n) e (omega arith) h

pub true_not_false : true ≡ false → ⊥
true_not_false e = cc

pub in_list-sound : (l : List Tree) (f : Tree) → in_list l f ≡ true → Has l f
in_list-sound [] f e = absurd (true_not_false (sym e))
in_list-sound (x ∷ l) f e = go (same x f) refl e (in_list-sound l f)
  where
    go : (b : Bool) → same x f ≡ b → either b (in_list l f) ≡ true → (in_list l f ≡ true → Has l f) → Has (x ∷ l) f
    go true q e ih = inl (same-true x f q)
    go false q e ih = inr (ih e)

pub in_list-has : (l : List Tree) (f : Tree) → Has l f → in_list l f ≡ true
in_list-has [] f h = absurd h
in_list-has (x ∷ l) f (inl q) = subst (λ z. either (same x z) (in_list l z) ≡ true) q (ap (λ b. either b (in_list l x)) (same-refl x))
in_list-has (x ∷ l) f (inr h) = go (same x f) (in_list-has l f h)
  where
    go : (b : Bool) → in_list l f ≡ true → either b (in_list l f) ≡ true
    go true e = refl
    go false e = e

pub has-complete : (b : Branch) (f : Tree) → Has (formulas b) f → has b f ≡ true
has-complete [] f h = absurd h
has-complete (e ∷ b) f (inl q) = subst (λ z. either (same e.formula z) (has b z) ≡ true) q (ap (λ x. either x (has b e.formula)) (same-refl e.formula))
has-complete (e ∷ b) f (inr h) = go (same e.formula f) (has-complete b f h)
  where
    go : (x : Bool) → has b f ≡ true → either x (has b f) ≡ true
    go true q = refl
    go false q = q
