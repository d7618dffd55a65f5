-- The needs of entries: old entries keep theirs when formulas are added, and what is new has what is given.
use Rattle.std.proofs.Common.{◌≡◌, ℕ, zero, suc, Bool, true, false, not, List, [], ◌∷◌, ◌++◌, refl, ap, sym, ◌∙◌, subst}
use Rattle.std.proofs.lemmas.Bool.{false≢true}
use Rattle.core_expr.specs.Tree.{Tree}
use Rattle.core_expr.specs.Terms.{same}
use Rattle.core_expr.specs.Equal.{same-true, same-refl}
use Rattle.search_definition.specs.Terms.{if_so, either, in_list}
use Rattle.search_definition.specs.Branches.{Entry, Branch, has, add, add_all, news, used}
use Rattle.search_definition.specs.Needs.{needs_at, with_news}
use Rattle.search_definition.specs.Trees.{newly}

-- there is a set for each entry
abbrev pub Aligned : Branch → List (List ℕ) → Type 0
Aligned [] [] = Unit {0}
Aligned [] (u ∷ needs) = ⊥
Aligned (e ∷ b) [] = ⊥
Aligned (e ∷ b) (u ∷ needs) = Aligned b needs

abbrev pub entry_of : Tree → Entry
entry_of f = record { formula = f; live = true; count = 0 }

aligned-last : (b : Branch) (needs : List (List ℕ)) (e : Entry) (u : List ℕ) → Aligned b needs → Aligned (b ++ e ∷ []) (needs ++ u ∷ [])
aligned-last [] [] e u h = tt
aligned-last [] (v ∷ needs) e u h = absurd h
aligned-last (d ∷ b) [] e u h = absurd h
aligned-last (d ∷ b) (v ∷ needs) e u h = aligned-last b needs e u h

old-last : (b : Branch) (needs : List (List ℕ)) (e : Entry) (u : List ℕ) (f : Tree) → Aligned b needs → has b f ≡ true → needs_at (b ++ e ∷ []) (needs ++ u ∷ []) f ≡ needs_at b needs f
old-last [] needs e u f h p = absurd (false≢true p)
old-last (d ∷ b) [] e u f h p = absurd h
old-last (d ∷ b) (v ∷ needs) e u f h p = go (same d.formula f) (old-last b needs e u f h) p
  where
    go : (x : Bool) → (has b f ≡ true → needs_at (b ++ e ∷ []) (needs ++ u ∷ []) f ≡ needs_at b needs f) → either x (has b f) ≡ true → if_so x v (needs_at (b ++ e ∷ []) (needs ++ u ∷ []) f) ≡ if_so x v (needs_at b needs f)
    go true ih p = refl
    go false ih p = ih p

new-last : (b : Branch) (needs : List (List ℕ)) (u : List ℕ) (f : Tree) → Aligned b needs → has b f ≡ false → needs_at (b ++ entry_of f ∷ []) (needs ++ u ∷ []) f ≡ u
new-last [] [] u f h p = ap (λ x. if_so x u []) (same-refl f)
new-last [] (v ∷ needs) u f h p = absurd h
new-last (d ∷ b) [] u f h p = absurd h
new-last (d ∷ b) (v ∷ needs) u f h p = go (same d.formula f) (new-last b needs u f h) p
  where
    go : (x : Bool) → (has b f ≡ false → needs_at (b ++ entry_of f ∷ []) (needs ++ u ∷ []) f ≡ u) → either x (has b f) ≡ false → if_so x v (needs_at (b ++ entry_of f ∷ []) (needs ++ u ∷ []) f) ≡ u
    go true ih p = absurd (false≢true (sym p))
    go false ih p = ih p

has-more : (b : Branch) (e : Entry) (f : Tree) → has b f ≡ true → has (b ++ e ∷ []) f ≡ true
has-more [] e f p = absurd (false≢true p)
has-more (d ∷ b) e f p = go (same d.formula f) (has-more b e f) p
  where
    go : (x : Bool) → (has b f ≡ true → has (b ++ e ∷ []) f ≡ true) → either x (has b f) ≡ true → either x (has (b ++ e ∷ []) f) ≡ true
    go true ih p = refl
    go false ih p = ih p

has-new : (b : Branch) (f : Tree) → has (b ++ entry_of f ∷ []) f ≡ true
has-new [] f = ap (λ x. either x false) (same-refl f)
has-new (d ∷ b) f = go (same d.formula f) (has-new b f)
  where
    go : (x : Bool) → has (b ++ entry_of f ∷ []) f ≡ true → either x (has (b ++ entry_of f ∷ []) f) ≡ true
    go true ih = refl
    go false ih = ih

pub not-last : (b : Branch) (g f : Tree) → same g f ≡ false → has b f ≡ false → has (b ++ entry_of g ∷ []) f ≡ false
not-last [] g f n k = ap (λ x. either x false) n
not-last (d ∷ c) g f n k = both (same d.formula f) (not-last c g f n) k
  where
    both : (x : Bool) → (has c f ≡ false → has (c ++ entry_of g ∷ []) f ≡ false) → either x (has c f) ≡ false → either x (has (c ++ entry_of g ∷ []) f) ≡ false
    both true ih k = k
    both false ih k = ih k

-- what is added with the needs u, one after the other
module _ (u : List ℕ) where
  abbrev grown_needs : Branch → List (List ℕ) → List Tree → List (List ℕ)
  grown_needs b needs fs = with_news needs u (news b fs)

  pub aligned-grown : (fs : List Tree) (b : Branch) (needs : List (List ℕ)) → Aligned b needs → Aligned (add_all b fs) (grown_needs b needs fs)
  aligned-grown [] b needs h = h
  aligned-grown (g ∷ fs) b needs h = go (λ c n k. aligned-grown fs c n k) (has b g)
    where
      go : ((c : Branch) (n : List (List ℕ)) → Aligned c n → Aligned (add_all c fs) (grown_needs c n fs)) → (x : Bool) → Aligned (add_all (if_so x b (b ++ entry_of g ∷ [])) fs) (with_news needs u (not x ∷ news (if_so x b (b ++ entry_of g ∷ [])) fs))
      go ih true = ih b needs h
      go ih false = ih (b ++ entry_of g ∷ []) (needs ++ u ∷ []) (aligned-last b needs (entry_of g) u h)

  pub old-grown : (fs : List Tree) (b : Branch) (needs : List (List ℕ)) (f : Tree) → Aligned b needs → has b f ≡ true → needs_at (add_all b fs) (grown_needs b needs fs) f ≡ needs_at b needs f
  old-grown [] b needs f h p = refl
  old-grown (g ∷ fs) b needs f h p = go (λ c n k q. old-grown fs c n f k q) (has b g)
    where
      go : ((c : Branch) (n : List (List ℕ)) → Aligned c n → has c f ≡ true → needs_at (add_all c fs) (grown_needs c n fs) f ≡ needs_at c n f)
          → (x : Bool) → needs_at (add_all (if_so x b (b ++ entry_of g ∷ [])) fs) (with_news needs u (not x ∷ news (if_so x b (b ++ entry_of g ∷ [])) fs)) f ≡ needs_at b needs f
      go ih true = ih b needs h p
      go ih false = ih (b ++ entry_of g ∷ []) (needs ++ u ∷ []) (aligned-last b needs (entry_of g) u h) (has-more b (entry_of g) f p) ∙ old-last b needs (entry_of g) u f h p

  pub new-grown : (fs : List Tree) (b : Branch) (needs : List (List ℕ)) (f : Tree) → Aligned b needs → has b f ≡ false → in_list fs f ≡ true → needs_at (add_all b fs) (grown_needs b needs fs) f ≡ u
  new-grown [] b needs f h p q = absurd (false≢true q)
  new-grown (g ∷ fs) b needs f h p q = here (λ c n k a d. new-grown fs c n f k a d) (same g f) refl q
    where
      first : g ≡ f → (x : Bool) → has b g ≡ x → needs_at (add_all (if_so x b (b ++ entry_of g ∷ [])) fs) (with_news needs u (not x ∷ news (if_so x b (b ++ entry_of g ∷ [])) fs)) f ≡ u
      first e true r = absurd (false≢true (sym p ∙ ap (has b) (sym e) ∙ r))
      first e false r =
          old-grown fs (b ++ entry_of g ∷ []) (needs ++ u ∷ []) f (aligned-last b needs (entry_of g) u h) (subst (λ z. has (b ++ entry_of g ∷ []) z ≡ true) e (has-new b g))
          ∙ subst (λ z. needs_at (b ++ entry_of g ∷ []) (needs ++ u ∷ []) z ≡ u) e (new-last b needs u g h r)

      later : ((c : Branch) (n : List (List ℕ)) → Aligned c n → has c f ≡ false → in_list fs f ≡ true → needs_at (add_all c fs) (grown_needs c n fs) f ≡ u) → in_list fs f ≡ true → same g f ≡ false → (x : Bool) → has b g ≡ x → needs_at (add_all (if_so x b (b ++ entry_of g ∷ [])) fs) (with_news needs u (not x ∷ news (if_so x b (b ++ entry_of g ∷ [])) fs)) f ≡ u
      later ih q n true r = ih b needs h p q
      later ih q n false r = ih (b ++ entry_of g ∷ []) (needs ++ u ∷ []) (aligned-last b needs (entry_of g) u h) (not-last b g f n p) q

      here : ((c : Branch) (n : List (List ℕ)) → Aligned c n → has c f ≡ false → in_list fs f ≡ true → needs_at (add_all c fs) (grown_needs c n fs) f ≡ u) → (x : Bool) → same g f ≡ x → either x (in_list fs f) ≡ true → needs_at (add_all (add b g) fs) (with_news needs u (not (has b g) ∷ news (add b g) fs)) f ≡ u
      here ih true e q = first (same-true g f e) (has b g) refl
      here ih false e q = later ih q e (has b g) refl

-- an entry is used
pub aligned-used : (s r : Bool) (b : Branch) (needs : List (List ℕ)) (i : ℕ) → Aligned b needs → Aligned (used s r b i) needs
aligned-used s r [] needs i h = h
aligned-used s r (e ∷ b) [] i h = absurd h
aligned-used s r (e ∷ b) (u ∷ needs) zero h = h
aligned-used s r (e ∷ b) (u ∷ needs) (suc i) h = aligned-used s r b needs i h

pub needs-used : (s r : Bool) (b : Branch) (needs : List (List ℕ)) (i : ℕ) (f : Tree) → needs_at (used s r b i) needs f ≡ needs_at b needs f
needs-used s r [] needs i f = refl
needs-used s r (e ∷ b) [] zero f = refl
needs-used s r (e ∷ b) [] (suc i) f = refl
needs-used s r (e ∷ b) (u ∷ needs) zero f = refl
needs-used s r (e ∷ b) (u ∷ needs) (suc i) f = ap (λ v. if_so (same e.formula f) u v) (needs-used s r b needs i f)

pub has-used : (s r : Bool) (b : Branch) (i : ℕ) (h : Tree) → has (used s r b i) h ≡ has b h
has-used s r [] i h = refl
has-used s r (e ∷ b) zero h = refl
has-used s r (e ∷ b) (suc i) h = ap (λ x. either (same e.formula h) x) (has-used s r b i h)

-- an entry that does not stand there needs nothing
pub needs-none : (b : Branch) (needs : List (List ℕ)) (f : Tree) → has b f ≡ false → needs_at b needs f ≡ []
needs-none [] needs f p = refl
needs-none (e ∷ b) [] f p = refl
needs-none (e ∷ b) (u ∷ needs) f p = go (same e.formula f) (needs-none b needs f) p
  where
    go : (x : Bool) → (has b f ≡ false → needs_at b needs f ≡ []) → either x (has b f) ≡ false → if_so x u (needs_at b needs f) ≡ []
    go true ih p = absurd (false≢true (sym p))
    go false ih p = ih p

-- what is newly added is not on the branch, and is among what is added
pub newly-new : (b : Branch) (fs : List Tree) (f : Tree) → in_list (newly b fs) f ≡ true → (has b f ≡ false) × (in_list fs f ≡ true)
newly-new b [] f h = absurd (false≢true h)
newly-new b (g ∷ fs) f h = go (has b g) refl (newly-new b fs f) h
  where
    behind : (has b f ≡ false) × (in_list fs f ≡ true) → (has b f ≡ false) × (either (same g f) (in_list fs f) ≡ true)
    behind k = (k.0, right (same g f))
      where
        right : (y : Bool) → either y (in_list fs f) ≡ true
        right true = refl
        right false = k.1

    front : has b g ≡ false → (y : Bool) → same g f ≡ y → (in_list (newly b fs) f ≡ true → (has b f ≡ false) × (in_list fs f ≡ true)) → either y (in_list (newly b fs) f) ≡ true → (has b f ≡ false) × (either y (in_list fs f) ≡ true)
    front e true q ih h = (ap (has b) (sym (same-true g f q)) ∙ e, refl)
    front e false q ih h = ih h

    go : (x : Bool) → has b g ≡ x → (in_list (newly b fs) f ≡ true → (has b f ≡ false) × (in_list fs f ≡ true)) → in_list (if_so x (newly b fs) (g ∷ newly b fs)) f ≡ true → (has b f ≡ false) × (either (same g f) (in_list fs f) ≡ true)
    go true e ih h = behind (ih h)
    go false e ih h = front e (same g f) refl ih h
