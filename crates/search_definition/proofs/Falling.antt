-- Falling lists.
use Rattle.std.proofs.Common.{◌≡◌, ℕ, ◌<◌, ◌≤◌, Bool, true, false, ◌||◌, List, [], ◌∷◌, refl, ap, sym, ◌∙◌, arith, eqb, ltb, eq-eqb}
use Rattle.std.proofs.lemmas.Bool.{ne_eqb, eqb-true, eqb-false, ltb-true, ltb-false, le-ltb}
use Rattle.search_definition.specs.Terms.{if_so, either}
use Rattle.search_definition.specs.Needs.{contains, union, without, merge_into}
use Rattle.search_definition.specs.Watches.{FallsFrom}
use Rattle.search_definition.specs.Laws.{FallingContains, FallingUnion, FallingWithout, FallingFirst}

weaker : (m n : ℕ) (u : List ℕ) → m ≤ n → FallsFrom m u → FallsFrom n u
weaker m n [] l h = tt
weaker m n (x ∷ u) l h = (omega (arith, h.0), h.1)

above : (n x : ℕ) (u : List ℕ) → FallsFrom n u → n ≤ x → contains u x ≡ false
above n x [] h l = refl
above n x (m ∷ u) h l = ap (λ b. either b (contains u x)) (ne_eqb m x (λ e. omega (arith, h.0))) ∙ above m x u h.1 (omega (arith, h.0))

either_or : (m x : ℕ) (u : List ℕ) → contains (m ∷ u) x ≡ (eqb m x || contains u x)
either_or m x u = go (eqb m x)
  where
    go : (b : Bool) → either b (contains u x) ≡ (b || contains u x)
    go true = refl
    go false = refl

pub contains_first : FallingContains
contains_first n [] h = refl
contains_first n (m ∷ u) h = go (eqb m n) (λ b. b)
  where
    low : contains u n ≡ false
    low = above m n u h.1 (omega (arith, h.0))

    go : (b : Bool) → (Bool → Bool) → either b (contains u n) ≡ b
    go true f = refl
    go false f = low

same_without : (m n : ℕ) (u : List ℕ) → FallsFrom m u → m ≤ n → without u n ≡ u
same_without m n [] h l = refl
same_without m n (x ∷ u) h l = ap (λ b. if_so b (without u n) (x ∷ without u n)) (ne_eqb x n (λ e. omega (arith, h.0))) ∙ ap (λ v. x ∷ v) (same_without x n u h.1 (omega (arith, h.0)))

pub rests : FallingWithout
rests n u h = let s = same_without n n u h (omega arith) in (ap (λ b. if_so b (without u n) (n ∷ without u n)) (eq-eqb n n refl) ∙ s, s)

or_true : (b : Bool) → (b || true) ≡ true
or_true true = refl
or_true false = refl

or_none : (a : Bool) → (a || false) ≡ a
or_none true = refl
or_none false = refl

or_over : (a b c : Bool) → (b || (a || c)) ≡ (a || (b || c))
or_over true true c = refl
or_over true false c = refl
or_over false b c = refl

or_twice : (a b c : Bool) → (a || (b || c)) ≡ ((a || b) || (a || c))
or_twice true b c = refl
or_twice false b c = refl

or_group : (a b c : Bool) → (a || (b || c)) ≡ ((a || b) || c)
or_group true b c = refl
or_group false b c = refl

in_merge_into : (n x : ℕ) (ns : List ℕ) (more : List ℕ → List ℕ) → ((ks : List ℕ) → contains (more ks) x ≡ (contains ns x || contains ks x)) → (ks : List ℕ) → contains (merge_into n more ks) x ≡ (contains (n ∷ ns) x || contains ks x)
in_merge_into n x ns more h [] =
    either_or n x (more [])
    ∙ ap (λ b. eqb n x || b) (h [] ∙ or_none (contains ns x))
    ∙ sym (either_or n x ns)
    ∙ sym (or_none (contains (n ∷ ns) x))
in_merge_into n x ns more h (k ∷ ks) = lt (ltb n k) (in_merge_into n x ns more h ks)
  where
    last : contains (n ∷ more (k ∷ ks)) x ≡ (contains (n ∷ ns) x || contains (k ∷ ks) x)
    last =
        either_or n x (more (k ∷ ks))
        ∙ ap (λ b. eqb n x || b) (h (k ∷ ks))
        ∙ or_group (eqb n x) (contains ns x) (contains (k ∷ ks) x)
        ∙ ap (λ b. b || contains (k ∷ ks) x) (sym (either_or n x ns))

    eq : (b : Bool) → eqb n k ≡ b → contains (if_so b (n ∷ more ks) (n ∷ more (k ∷ ks))) x ≡ (contains (n ∷ ns) x || contains (k ∷ ks) x)
    eq true e =
        let q : n ≡ k = eqb-true n k e in
        either_or n x (more ks)
        ∙ ap (λ b. eqb n x || b) (h ks)
        ∙ or_twice (eqb n x) (contains ns x) (contains ks x)
        ∙ ap (λ b. b || (eqb n x || contains ks x)) (sym (either_or n x ns))
        ∙ ap (λ m. contains (n ∷ ns) x || (eqb m x || contains ks x)) q
        ∙ ap (λ b. contains (n ∷ ns) x || b) (sym (either_or k x ks))
    eq false e = last

    lt : (b : Bool) → contains (merge_into n more ks) x ≡ (contains (n ∷ ns) x || contains ks x) → contains (if_so b (k ∷ merge_into n more ks) (if_so (eqb n k) (n ∷ more ks) (n ∷ more (k ∷ ks)))) x ≡ (contains (n ∷ ns) x || contains (k ∷ ks) x)
    lt true r =
        either_or k x (merge_into n more ks)
        ∙ ap (λ b. eqb k x || b) r
        ∙ or_over (contains (n ∷ ns) x) (eqb k x) (contains ks x)
        ∙ ap (λ b. contains (n ∷ ns) x || b) (sym (either_or k x ks))
    lt false r = eq (eqb n k) refl

pub in_merge : (ns ks : List ℕ) (x : ℕ) → contains (union ns ks) x ≡ (contains ns x || contains ks x)
in_merge [] ks x = refl
in_merge (n ∷ ns) ks x = in_merge_into n x ns (union ns) (λ js. in_merge ns js x) ks

falls_into : (m n : ℕ) (ns : List ℕ) (more : List ℕ → List ℕ) → ((i : ℕ) (ks : List ℕ) → FallsFrom i ns → FallsFrom i ks → FallsFrom i (more ks)) → (ks : List ℕ) → n < m → FallsFrom n ns → FallsFrom m ks → FallsFrom m (merge_into n more ks)
falls_into m n ns more h [] l a b = (l, h n [] a tt)
falls_into m n ns more h (k ∷ ks) l a b = lt (ltb n k) refl (λ q. falls_into k n ns more h ks q a b.1)
  where
    eq : (x : Bool) → eqb n k ≡ x → k ≤ n → FallsFrom m (if_so x (n ∷ more ks) (n ∷ more (k ∷ ks)))
    eq true e o = let q : n ≡ k = eqb-true n k e in (l, h n ks a (weaker k n ks (omega arith) b.1))
    eq false e o = let q : n ≡ k → ⊥ = eqb-false n k e in (l, h n (k ∷ ks) a (omega arith, b.1))

    lt : (x : Bool) → ltb n k ≡ x → (n < k → FallsFrom k (merge_into n more ks)) → FallsFrom m (if_so x (k ∷ merge_into n more ks) (if_so (eqb n k) (n ∷ more ks) (n ∷ more (k ∷ ks))))
    lt true e r = (b.0, r (ltb-true n k e))
    lt false e r = eq (eqb n k) refl (ltb-false n k e)

falls : (ns : List ℕ) (m : ℕ) (ks : List ℕ) → FallsFrom m ns → FallsFrom m ks → FallsFrom m (union ns ks)
falls [] m ks a b = b
falls (n ∷ ns) m ks a b = falls_into m n ns (union ns) (λ i js. falls ns i js) ks a.0 a.1 b

pub merges : FallingUnion
merges n u k h g = (falls u n k h g, in_merge u k)

pub fronts : FallingFirst
fronts n [] h = refl
fronts n (k ∷ u) h =
    ap (λ x. if_so x (k ∷ merge_into n (union []) u) (if_so (eqb n k) (n ∷ u) (n ∷ k ∷ u))) (le-ltb n k (omega (arith, h.0)))
    ∙ ap (λ x. if_so x (n ∷ u) (n ∷ k ∷ u)) (ne_eqb n k (λ e. omega (arith, h.0)))
