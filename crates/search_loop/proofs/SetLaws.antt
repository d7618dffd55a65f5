-- Falling lists and stacks, step by step.
use Rattle.std.proofs.Common.{◌≡◌, ℕ, suc, ◌+◌, ◌<◌, ◌≤◌, ◌⊎◌, inl, inr, Bool, true, false, List, [], ◌∷◌, ◌++◌, length, get_or, take, drop, map, refl, ap, sym, subst, ◌∙◌, arith, eqb, eq-eqb}
use Rattle.std.proofs.lemmas.Bool.{ne_eqb, lt-ltb, le-ltb}
use Rattle.std.proofs.lemmas.List.{reverse-append, take_more, drop_more, drop_all, drop-drop, append_assoc}
use Rattle.search_definition.specs.Terms.{if_so, either}
use Rattle.search_definition.specs.Needs.{contains, union, without}
use Rattle.search_definition.specs.Watches.{FallsFrom}
use Rattle.search_definition.proofs.Falling.{contains_first, merges}
use Rattle.search_loop.specs.declared.frames.Frame.{Frame as Kept}
use Rattle.search_loop.specs.Stacks.{frame_of, stack_of, Falls}

pub stack_push : (fs : List Kept) (f : Kept) → stack_of (fs ++ f ∷ []) ≡ frame_of f ∷ stack_of fs
stack_push fs f = ap (map frame_of) (reverse-append fs (f ∷ []))

-- falling lists

weaker : (m n : ℕ) (u : List ℕ) → m ≤ n → FallsFrom m u → FallsFrom n u
weaker m n [] l h = tt
weaker m n (x ∷ u) l h = (omega (arith, h.0), h.1)

falls_rest : (m : ℕ) (u : List ℕ) → FallsFrom m u → Falls u
falls_rest m [] h = tt
falls_rest m (x ∷ u) h = h.1

pub falls_tail : (m : ℕ) (u : List ℕ) → Falls (m ∷ u) → Falls u
falls_tail m u h = falls_rest m u h

without_from : (m n : ℕ) (u : List ℕ) → FallsFrom m u → FallsFrom m (without u n)
without_from m n [] h = tt
without_from m n (x ∷ u) h = go (eqb x n) (without_from x n u h.1)
  where
    go : (b : Bool) → FallsFrom x (without u n) → FallsFrom m (if_so b (without u n) (x ∷ without u n))
    go true k = weaker x m (without u n) (omega (arith, h.0)) k
    go false k = (h.0, k)

pub falls_without : (n : ℕ) (u : List ℕ) → Falls u → Falls (without u n)
falls_without n [] h = tt
falls_without n (x ∷ u) h = falls_rest (suc x) (without (x ∷ u) n) (without_from (suc x) n (x ∷ u) (omega arith, h))

abbrev bound : List ℕ → ℕ
bound [] = 0
bound (x ∷ u) = suc x

from_bound : (n : ℕ) (u : List ℕ) → bound u ≤ n → Falls u → FallsFrom n u
from_bound n [] l h = tt
from_bound n (x ∷ u) l h = (omega (arith, l), h)

pub falls_union : (u k : List ℕ) → Falls u → Falls k → Falls (union u k)
falls_union u k h g =
    let n : ℕ = bound u + bound k in
    falls_rest n (union u k) (merges n u k (from_bound n u (omega arith) h) (from_bound n k (omega arith) g)).0

-- whether a number is in a falling list

pub contains_at : (xs : List ℕ) (i n : ℕ) → i < length xs → Falls (drop i xs) → get_or xs i 0 ≤ n → contains (drop i xs) n ≡ eqb (get_or xs i 0) n
contains_at xs i n l h k =
    let e = drop_more xs i 0 l in
    let f : FallsFrom (suc n) (get_or xs i 0 ∷ drop (i + 1) xs) = (omega (arith, k), subst Falls e h) in
    ap (λ ys. contains ys n) e ∙ contains_first n (get_or xs i 0 ∷ drop (i + 1) xs) f

pub contains_next : (xs : List ℕ) (i n : ℕ) → i < length xs → n < get_or xs i 0 → contains (drop i xs) n ≡ contains (drop (i + 1) xs) n
contains_next xs i n l k =
    ap (λ ys. contains ys n) (drop_more xs i 0 l) ∙ ap (λ b. either b (contains (drop (i + 1) xs) n)) (ne_eqb (get_or xs i 0) n (λ e. omega (arith, e, k)))

pub falls_next : (xs : List ℕ) (i : ℕ) → i < length xs → Falls (drop i xs) → Falls (drop (i + 1) xs)
falls_next xs i l h = falls_tail (get_or xs i 0) (drop (i + 1) xs) (subst Falls (drop_more xs i 0 l) h)

pub contains_end : (xs : List ℕ) (i n : ℕ) → length xs ≤ i → contains (drop i xs) n ≡ false
contains_end xs i n l = ap (λ ys. contains ys n) (drop_all i xs l)

-- a set without a number

without_append : (xs ys : List ℕ) (n : ℕ) → without (xs ++ ys) n ≡ without xs n ++ without ys n
without_append [] ys n = refl
without_append (y ∷ xs) ys n = go (eqb y n) (without_append xs ys n)
  where
    go : (b : Bool) → without (xs ++ ys) n ≡ without xs n ++ without ys n → if_so b (without (xs ++ ys) n) (y ∷ without (xs ++ ys) n) ≡ if_so b (without xs n) (y ∷ without xs n) ++ without ys n
    go true h = h
    go false h = ap (λ zs. y ∷ zs) h

pub without_one : (x n : ℕ) → x ≡ n → without (x ∷ []) n ≡ []
without_one x n e = ap (λ b. if_so b [] (x ∷ [])) (eq-eqb x n e)

pub without_other : (x n : ℕ) → (x ≡ n → ⊥) → without (x ∷ []) n ≡ x ∷ []
without_other x n e = ap (λ b. if_so b [] (x ∷ [])) (ne_eqb x n e)

pub nothing_behind : (xs : List ℕ) → xs ≡ xs ++ []
nothing_behind [] = refl
nothing_behind (x ∷ xs) = ap (λ ys. x ∷ ys) (nothing_behind xs)

pub without_more : (xs : List ℕ) (i n : ℕ) → i < length xs → without (take i xs) n ++ without (get_or xs i 0 ∷ []) n ≡ without (take (i + 1) xs) n
without_more xs i n l = sym (without_append (take i xs) (get_or xs i 0 ∷ []) n) ∙ ap (λ ys. without ys n) (sym (take_more xs i 0 l))

-- the union of two sets

pub union_right : (n k : ℕ) (ns ks : List ℕ) → n < k → union (n ∷ ns) (k ∷ ks) ≡ k ∷ union (n ∷ ns) ks
union_right n k ns ks l = ap (λ b. if_so b (k ∷ union (n ∷ ns) ks) (if_so (eqb n k) (n ∷ union ns ks) (n ∷ union ns (k ∷ ks)))) (lt-ltb n k l)

pub union_same : (n k : ℕ) (ns ks : List ℕ) → n ≡ k → union (n ∷ ns) (k ∷ ks) ≡ n ∷ union ns ks
union_same n k ns ks e =
    ap (λ b. if_so b (k ∷ union (n ∷ ns) ks) (if_so (eqb n k) (n ∷ union ns ks) (n ∷ union ns (k ∷ ks)))) (le-ltb n k (omega (arith, e)))
    ∙ ap (λ b. if_so b (n ∷ union ns ks) (n ∷ union ns (k ∷ ks))) (eq-eqb n k e)

pub union_left : (n k : ℕ) (ns ks : List ℕ) → k ≤ n → (n ≡ k → ⊥) → union (n ∷ ns) (k ∷ ks) ≡ n ∷ union ns (k ∷ ks)
union_left n k ns ks l e =
    ap (λ b. if_so b (k ∷ union (n ∷ ns) ks) (if_so (eqb n k) (n ∷ union ns ks) (n ∷ union ns (k ∷ ks)))) (le-ltb n k l)
    ∙ ap (λ b. if_so b (n ∷ union ns ks) (n ∷ union ns (k ∷ ks))) (ne_eqb n k e)

union_nil : (ns : List ℕ) → union ns [] ≡ ns
union_nil [] = refl
union_nil (n ∷ ns) = ap (λ ms. n ∷ ms) (union_nil ns)

-- where one of the two is at its end
pub union_end : (xs ys : List ℕ) (i j : ℕ) → length xs ≤ i ⊎ length ys ≤ j → drop i xs ++ drop j ys ≡ union (drop i xs) (drop j ys)
union_end xs ys i j (inl l) = let e = drop_all i xs l in ap (λ zs. zs ++ drop j ys) e ∙ ap (λ zs. union zs (drop j ys)) (sym e)
union_end xs ys i j (inr l) =
    let e = drop_all j ys l in
    ap (λ zs. drop i xs ++ zs) e ∙ sym (nothing_behind (drop i xs)) ∙ sym (union_nil (drop i xs)) ∙ ap (λ zs. union (drop i xs) zs) (sym e)

-- one number comes to the merged part
pub union_step : (xs ys both : List ℕ) (i j a b z : ℕ) → i < length xs → j < length ys
    → ((ns ks : List ℕ) → union (get_or xs i 0 ∷ ns) (get_or ys j 0 ∷ ks) ≡ z ∷ union (drop a (get_or xs i 0 ∷ ns)) (drop b (get_or ys j 0 ∷ ks)))
    → both ++ z ∷ [] ++ union (drop (i + a) xs) (drop (j + b) ys) ≡ both ++ union (drop i xs) (drop j ys)
union_step xs ys both i j a b z l m h =
    let e : drop i xs ≡ get_or xs i 0 ∷ drop (i + 1) xs = drop_more xs i 0 l in
    let f : drop j ys ≡ get_or ys j 0 ∷ drop (j + 1) ys = drop_more ys j 0 m in
    let p : drop a (get_or xs i 0 ∷ drop (i + 1) xs) ≡ drop (i + a) xs = ap (drop a) (sym e) ∙ drop-drop a i xs in
    let q : drop b (get_or ys j 0 ∷ drop (j + 1) ys) ≡ drop (j + b) ys = ap (drop b) (sym f) ∙ drop-drop b j ys in
    append_assoc both (z ∷ []) (union (drop (i + a) xs) (drop (j + b) ys))
    ∙ ap (λ us. both ++ us) (sym ((λ t. union (e t) (f t)) ∙ h (drop (i + 1) xs) (drop (j + 1) ys) ∙ (λ t. z ∷ union (p t) (q t))))
