-- Laws of the latest places.
use Rattle.std.proofs.Common.{◌≡◌, ℕ, ◌+◌, ◌-◌, ◌<◌, ◌≤◌, List, [], ◌∷◌, ◌++◌, length, get_or, set, refl, ap, sym, ◌∙◌, arith, subst, inl, inr}
use Rattle.std.proofs.lemmas.List.{get_or_append_left, get_or_push, length_push, length-map, length-set, map-append, get_or-set_same, get_or-set_other}
use Rattle.std.proofs.lemmas.Bool.{cases_eq, cases_lt}
use Rattle.proof_checker.specs.Latest.{items_of, befores_of, IsLatest, IsKept, HasFrom}
use Rattle.proof_checker.specs.declared.trail.Kept.{Kept}

IsLatest-same : (xs ys : List ℕ) (n x place : ℕ) → ((j : ℕ) → j < n → get_or ys j 0 ≡ get_or xs j 0) → IsLatest xs n x place → IsLatest ys n x place
IsLatest-same xs ys n x place e a = record {
  below = a.below;
  same = λ h. let l : place - 1 < n = omega (arith, a.below) in e (place - 1) l ∙ a.same h;
  passed = λ j p q z. a.passed j p q (sym (e j q) ∙ z);
}

pub IsKept-push : (xs bs latest : List ℕ) (x : ℕ) → length bs ≡ length xs → IsKept xs bs latest → x < length latest → IsKept (xs ++ x ∷ []) (bs ++ get_or latest x 0 ∷ []) (set latest x (length xs + 1))
IsKept-push xs bs latest x c a h = record { latest_is = latest_is; before_is = before_is; within = within }
  where
    old : (j : ℕ) → j < length xs → get_or (xs ++ x ∷ []) j 0 ≡ get_or xs j 0
    old j l = get_or_append_left xs (x ∷ []) 0 j l

    new : get_or (xs ++ x ∷ []) (length xs) 0 ≡ x
    new = get_or_push xs x 0 (length xs) refl

    here : IsLatest (xs ++ x ∷ []) (length (xs ++ x ∷ [])) x (length xs + 1)
    here = record {
      below = omega (arith, length_push xs x);
      same = λ l. let e : length xs + 1 - 1 ≡ length xs = omega arith in ap (λ k. get_or (xs ++ x ∷ []) k 0) e ∙ new;
      passed = λ j p q z. absurd (omega (arith, length_push xs x));
    }

    there : (y : ℕ) → (y ≡ x → ⊥) → IsLatest (xs ++ x ∷ []) (length (xs ++ x ∷ [])) y (get_or latest y 0)
    there y ne =
        let o = IsLatest-same xs (xs ++ x ∷ []) (length xs) y (get_or latest y 0) old (a.latest_is y) in
        record {
          below = omega (arith, o.below, length_push xs x);
          same = o.same;
          passed = λ j p q z.
              elim (cases_lt j (length xs)) [
                | inl l ↦ o.passed j p l z
                | inr g ↦ let e : j ≡ length xs = omega (arith, length_push xs x) in ne (sym z ∙ ap (λ k. get_or (xs ++ x ∷ []) k 0) e ∙ new)
              ];
        }

    latest_is : (y : ℕ) → IsLatest (xs ++ x ∷ []) (length (xs ++ x ∷ [])) y (get_or (set latest x (length xs + 1)) y 0)
    latest_is y =
        elim (cases_eq y x) [
          | inl e ↦ rw (e, get_or-set_same latest x (length xs + 1) 0 h) here
          | inr ne ↦ rw (get_or-set_other latest x y (length xs + 1) 0 ne) (there y ne)
        ]

    before_is : (p : ℕ) → p < length (xs ++ x ∷ []) → IsLatest (xs ++ x ∷ []) p (get_or (xs ++ x ∷ []) p 0) (get_or (bs ++ get_or latest x 0 ∷ []) p 0)
    before_is p l =
        elim (cases_lt p (length xs)) [
          | inl q ↦ rw (old p q, get_or_append_left bs (get_or latest x 0 ∷ []) 0 p (omega arith)) (IsLatest-same xs (xs ++ x ∷ []) p (get_or xs p 0) (get_or bs p 0) (λ j m. old j (omega arith)) (a.before_is p q))
          | inr q ↦
              let e : p ≡ length xs = omega (arith, length_push xs x) in
              rw (e, new, get_or_push bs (get_or latest x 0) 0 (length xs) c) (IsLatest-same xs (xs ++ x ∷ []) (length xs) x (get_or latest x 0) old (a.latest_is x))
        ]

    within : (p : ℕ) → p < length (xs ++ x ∷ []) → get_or (xs ++ x ∷ []) p 0 < length (set latest x (length xs + 1))
    within p l =
        elim (cases_lt p (length xs)) [
          | inl q ↦ rw (old p q, length-set latest x (length xs + 1)) (a.within p q)
          | inr q ↦ let e : p ≡ length xs = omega (arith, length_push xs x) in rw (e, new, length-set latest x (length xs + 1)) h
        ]

pub IsKept-pop : (xs bs latest : List ℕ) (x b : ℕ) → length bs ≡ length xs → IsKept (xs ++ x ∷ []) (bs ++ b ∷ []) latest → IsKept xs bs (set latest x b)
IsKept-pop xs bs latest x b c a = record { latest_is = latest_is; before_is = before_is; within = within }
  where
    old : (j : ℕ) → j < length xs → get_or (xs ++ x ∷ []) j 0 ≡ get_or xs j 0
    old j l = get_or_append_left xs (x ∷ []) 0 j l

    new : get_or (xs ++ x ∷ []) (length xs) 0 ≡ x
    new = get_or_push xs x 0 (length xs) refl

    room : x < length latest
    room = subst (λ k. k < length latest) new (a.within (length xs) (omega (arith, length_push xs x)))

    here : IsLatest xs (length xs) x b
    here =
        IsLatest-same (xs ++ x ∷ []) xs (length xs) x b (λ j l. sym (old j l))
        (let z : IsLatest (xs ++ x ∷ []) (length xs) (get_or (xs ++ x ∷ []) (length xs) 0) (get_or (bs ++ b ∷ []) (length xs) 0) = a.before_is (length xs) (omega (arith, length_push xs x)) in
        rw (new, get_or_push bs b 0 (length xs) c) at z)

    there : (y : ℕ) → (y ≡ x → ⊥) → IsLatest xs (length xs) y (get_or latest y 0)
    there y ne =
        let o = a.latest_is y in
        let not_last : get_or latest y 0 ≡ length xs + 1 → ⊥ = λ e. ne (sym (o.same (omega arith)) ∙ ap (λ k. get_or (xs ++ x ∷ []) k 0) (let m : get_or latest y 0 - 1 ≡ length xs = omega arith in m) ∙ new) in
        let low : get_or latest y 0 ≤ length xs = elim (cases_eq (get_or latest y 0) (length xs + 1)) [ inl e ↦ absurd (not_last e) | inr e ↦ omega (arith, o.below, length_push xs x) ] in
        record {
          below = low;
          same = λ h. let l : get_or latest y 0 - 1 < length xs = omega arith in sym (old (get_or latest y 0 - 1) l) ∙ o.same h;
          passed = λ j p q z. o.passed j p (omega (arith, length_push xs x)) (old j q ∙ z);
        }

    latest_is : (y : ℕ) → IsLatest xs (length xs) y (get_or (set latest x b) y 0)
    latest_is y =
        elim (cases_eq y x) [
          | inl e ↦ rw (e, get_or-set_same latest x b 0 room) here
          | inr ne ↦ rw (get_or-set_other latest x y b 0 ne) (there y ne)
        ]

    before_is : (p : ℕ) → p < length xs → IsLatest xs p (get_or xs p 0) (get_or bs p 0)
    before_is p l =
        let z : IsLatest (xs ++ x ∷ []) p (get_or (xs ++ x ∷ []) p 0) (get_or (bs ++ b ∷ []) p 0) = a.before_is p (omega (arith, length_push xs x)) in
        let z' : IsLatest (xs ++ x ∷ []) p (get_or xs p 0) (get_or bs p 0) = rw (old p l, get_or_append_left bs (b ∷ []) 0 p (omega arith)) at z in
        IsLatest-same (xs ++ x ∷ []) xs p (get_or xs p 0) (get_or bs p 0) (λ j m. sym (old j (omega arith))) z'

    within : (p : ℕ) → p < length xs → get_or xs p 0 < length (set latest x b)
    within p l = rw (length-set latest x b, ← old p l) (a.within p (omega (arith, length_push xs x)))

pub IsKept-widen : (xs bs latest wider : List ℕ) → ((x : ℕ) → get_or wider x 0 ≡ get_or latest x 0) → length latest ≤ length wider → IsKept xs bs latest → IsKept xs bs wider
IsKept-widen xs bs latest wider e l a = record {
  latest_is = λ x. rw (e x) (a.latest_is x);
  before_is = a.before_is;
  within = λ p h. omega (arith, a.within p h);
}

pub kept_push : (ks more : List Kept) (latest : List ℕ) (count : ℕ) (k : Kept) → more ≡ ks ++ k ∷ [] → count ≡ length ks → k.before ≡ get_or latest k.item 0 → k.item < length latest → IsKept (items_of ks) (befores_of ks) latest → IsKept (items_of more) (befores_of more) (set latest k.item (count + 1))
kept_push ks more latest count k e c b h a =
    rw (e, map-append (λ (k : Kept). k.item) ks (k ∷ []), map-append (λ (k : Kept). k.before) ks (k ∷ []), b, c, ← length-map ks (λ (k : Kept). k.item))
    (IsKept-push (items_of ks) (befores_of ks) latest k.item (length-map ks (λ (k : Kept). k.before) ∙ sym (length-map ks (λ (k : Kept). k.item))) a h)

pub kept_pop : (ks less : List Kept) (latest : List ℕ) (k : Kept) → ks ≡ less ++ k ∷ [] → IsKept (items_of ks) (befores_of ks) latest → IsKept (items_of less) (befores_of less) (set latest k.item k.before)
kept_pop ks less latest k e a =
    IsKept-pop (items_of less) (befores_of less) latest k.item k.before (length-map less (λ (k : Kept). k.before) ∙ sym (length-map less (λ (k : Kept). k.item)))
    (rw (← map-append (λ (k : Kept). k.item) less (k ∷ []), ← map-append (λ (k : Kept). k.before) less (k ∷ []), ← e) a)

pub kept_room : (ks less : List Kept) (latest : List ℕ) (k : Kept) → ks ≡ less ++ k ∷ [] → IsKept (items_of ks) (befores_of ks) latest → k.item < length latest
kept_room ks less latest k e a =
    let m : items_of ks ≡ items_of less ++ k.item ∷ [] = ap items_of e ∙ map-append (λ (k : Kept). k.item) less (k ∷ []) in
    let l : length less < length (items_of ks) = omega (arith, ap length m, length_push (items_of less) k.item, length-map less (λ (k : Kept). k.item)) in
    let v : get_or (items_of ks) (length less) 0 ≡ k.item = ap (λ xs. get_or xs (length less) 0) m ∙ get_or_push (items_of less) k.item 0 (length less) (length-map less (λ (k : Kept). k.item)) in
    subst (λ x. x < length latest) v (a.within (length less) l)

pub has_from : (xs bs latest : List ℕ) (base x : ℕ) → IsKept xs bs latest → base < get_or latest x 0 → HasFrom xs base x
has_from xs bs latest base x a h = (get_or latest x 0 - 1, omega arith, omega (arith, (a.latest_is x).below), (a.latest_is x).same (omega arith))

pub from_has : (xs bs latest : List ℕ) (base x : ℕ) → IsKept xs bs latest → HasFrom xs base x → base < get_or latest x 0
from_has xs bs latest base x a h =
    elim (cases_lt base (get_or latest x 0)) [
      | inl l ↦ l
      | inr g ↦ absurd ((a.latest_is x).passed h.0 (omega (arith, h.1)) h.2 h.3)
    ]
