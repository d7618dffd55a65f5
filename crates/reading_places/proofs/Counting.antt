-- How often a place stands in a list of places. No place stands there twice where each is met once at most.
use Rattle.std.proofs.Common.{◌≡◌, ◌≤◌, ◌<◌, ◌+◌, ◌==◌, ℕ, Bool, true, false, ◌&&◌, nat_eq, nat_lt, List, [], ◌∷◌, ◌++◌, refl, sym, arith, inl, inr, ◌⊎◌}
use Rattle.std.proofs.lemmas.Bool.{or_cases, and_parts, ltb-true, eqb-true}
use Rattle.std.proofs.lemmas.Bool.Decides.{nat_tests}
use Rattle.core_expr.specs.Equal.{nat-refl}
use Rattle.tla_ast.specs.declared.place.Place.{Place}
use Rattle.tla_ast.specs.declared.token.Token.{Token}
use Rattle.tla_ast.specs.Listing.{RiseFrom, Rise}
use Rattle.tla_ast.specs.Place.{before}
use Rattle.name_places.specs.Places.{same_place, Apart, AllApart}

abbrev pub one : Bool → ℕ
one true = 1
one false = 0

-- 1 where the second place is the first, else 0
pub hit : Place → Place → ℕ
hit p q = one (same_place q p)

-- how often the place stands in the list
abbrev pub count : Place → List Place → ℕ
count p [] = 0
count p (q ∷ qs) = hit p q + count p qs

pub count-append : (p : Place) (qs rs : List Place) → count p (qs ++ rs) ≡ count p qs + count p rs
count-append p [] rs = omega arith
count-append p (q ∷ qs) rs = omega (arith, count-append p qs rs)

abbrev pub total : {A : Type 0} → (A → ℕ) → List A → ℕ
total f [] = 0
total f (x ∷ xs) = f x + total f xs

pub total-append : {A : Type 0} (f : A → ℕ) (xs ys : List A) → total f (xs ++ ys) ≡ total f xs + total f ys
total-append f [] ys = omega arith
total-append f (x ∷ xs) ys = omega (arith, total-append f xs ys)

-- ---- one place at most

hit-self : (p : Place) → hit p p ≡ 1
unfolding hit
hit-self p = both _ _ (nat-refl p.line) (nat-refl p.column)
  where
    both : (a b : Bool) → a ≡ true → b ≡ true → one (a && b) ≡ 1
    both a b e f = cc

hit-apart : (p q : Place) → hit p q ≡ 0 → same_place q p ≡ false
unfolding hit
hit-apart p q e = go (same_place q p) e
  where
    go : (b : Bool) → one b ≡ 0 → b ≡ false
    go b e = grind arith

never : (q : Place) (ps : List Place) → count q ps ≡ 0 → Apart q ps
never q [] e p h = absurd h
never q (x ∷ xs) e p (inl i) = rw (← i) (hit-apart q x (omega arith))
never q (x ∷ xs) e p (inr i) = never q xs (omega arith) p i

pub apart : (ps : List Place) → ((p : Place) → count p ps ≤ 1) → AllApart ps
apart [] h = tt
apart (q ∷ qs) h = (never q qs (let i = h q in omega (arith, hit-self q)), apart qs (λ p. let i = h p in omega arith))

-- ---- tokens whose places rise

-- how often the place is that of a token
abbrev pub met : Place → List Token → ℕ
met p = total (λ (t : Token). hit p t.place)

-- the second place is the first, or behind it
abbrev Behind : Place → Place → Type 0
Behind p q = (p.line < q.line) ⊎ ((p.line ≡ q.line) × (p.column ≤ q.column))

elsewhere : (p r : Place) → (p.line < r.line) ⊎ ((p.line ≡ r.line) × (p.column < r.column)) → hit p r ≡ 0
unfolding hit
elsewhere p r (inl a) = let e : nat_eq r.line p.line ≡ false = grind (arith, nat_tests) in rw e
elsewhere p r (inr a) = let e : nat_eq r.column p.column ≡ false = let b = a.1 in grind (arith, nat_tests) in rw e (second (nat_eq r.line p.line))
  where
    second : (b : Bool) → one (b && false) ≡ 0
    second true = refl
    second false = refl

strictly : (p q r : Place) → Behind p q → before q r ≡ true → (p.line < r.line) ⊎ ((p.line ≡ r.line) × (p.column < r.column))
strictly p q r h e = elim (or_cases _ _ e) [ inl a ↦ by-line h (ltb-true _ _ a) | inr a ↦ let c = and_parts (q.line == r.line) (nat_lt q.column r.column) a in by-column h (eqb-true _ _ c.0) (ltb-true _ _ c.1) ]
  where
    by-line : Behind p q → q.line < r.line → (p.line < r.line) ⊎ ((p.line ≡ r.line) × (p.column < r.column))
    by-line (inl a) b = inl (omega arith)
    by-line (inr a) b = let c = a.0 in inl (omega arith)

    by-column : Behind p q → q.line ≡ r.line → q.column < r.column → (p.line < r.line) ⊎ ((p.line ≡ r.line) × (p.column < r.column))
    by-column (inl a) b c = inl (omega arith)
    by-column (inr a) b c = let d = a.0 in let f = a.1 in inr (omega arith, omega arith)

behind : (p r : Place) → (p.line < r.line) ⊎ ((p.line ≡ r.line) × (p.column < r.column)) → Behind p r
behind p r (inl a) = inl a
behind p r (inr a) = let b = a.1 in inr (a.0, omega arith)

none-behind : (p q : Place) (ts : List Token) → Behind p q → RiseFrom q ts → met p ts ≡ 0
none-behind p q [] b h = refl
none-behind p q (t ∷ ts) b h =
    let s = strictly p q t.place b h.0 in
    omega (arith, elsewhere p t.place s, none-behind p t.place ts (behind p t.place s) h.1)

hit-cases : (p q : Place) → (hit p q ≡ 0) ⊎ ((hit p q ≡ 1) × (p.line ≡ q.line) × (p.column ≡ q.column))
unfolding hit
hit-cases p q = go (nat_eq q.line p.line) (nat_eq q.column p.column) refl refl
  where
    go : (a b : Bool) → nat_eq q.line p.line ≡ a → nat_eq q.column p.column ≡ b → (one (a && b) ≡ 0) ⊎ ((one (a && b) ≡ 1) × (p.line ≡ q.line) × (p.column ≡ q.column))
    go true true e f = inr (refl, sym (eqb-true _ _ e), sym (eqb-true _ _ f))
    go true false e f = inl refl
    go false b e f = inl refl

met-from : (p q : Place) (ts : List Token) → RiseFrom q ts → hit p q + met p ts ≤ 1
met-from p q [] h = elim (hit-cases p q) [ inl a ↦ omega arith | inr a ↦ let b = a.0 in omega arith ]
met-from p q (t ∷ ts) h = elim (hit-cases p q) [
  | inl a ↦ omega (arith, met-from p t.place ts h.1)
  | inr a ↦ let b = a.0 in let c = a.2 in omega (arith, none-behind p q (t ∷ ts) (inr (a.1, omega arith)) h)
]

pub met-once : (p : Place) (ts : List Token) → Rise ts → met p ts ≤ 1
met-once p [] h = omega arith
met-once p (t ∷ ts) h = met-from p t.place ts h
