-- Numbers that stand at most once, by how often each stands.
use Rattle.std.proofs.Common.{◌≡◌, ℕ, suc, ◌+◌, ◌<◌, ◌≤◌, Bool, true, false, cond, nat_eq, List, [], ◌∷◌, ◌++◌, refl, ap, sym, subst, arith, eq-eqb, eqb-true, ◌⊎◌, inl, inr}
use Rattle.std.proofs.lemmas.Bool.{cases_order}
use Rattle.core_expr.specs.Nodes.{AreBelow}
use Rattle.seq_calculus.specs.Lists.{IsApart, AreApart}

-- how often a number stands here
abbrev pub times : ℕ → List ℕ → ℕ
times n [] = 0
times n (m ∷ ms) = cond (nat_eq n m) (suc (times n ms)) (times n ms)

pub times-append : (n : ℕ) (xs ys : List ℕ) → times n (xs ++ ys) ≡ times n xs + times n ys
times-append n [] ys = omega arith
times-append n (x ∷ xs) ys = go (nat_eq n x) (times-append n xs ys)
  where
    go : (b : Bool) → times n (xs ++ ys) ≡ times n xs + times n ys → cond b (suc (times n (xs ++ ys))) (times n (xs ++ ys)) ≡ cond b (suc (times n xs)) (times n xs) + times n ys
    go true e = omega arith
    go false e = e

pub times-here : (n : ℕ) (xs : List ℕ) → times n (n ∷ xs) ≡ suc (times n xs)
times-here n xs = ap (λ b. cond b (suc (times n xs)) (times n xs)) (eq-eqb n n refl)

pub times-other : (n m : ℕ) (xs : List ℕ) → (n ≡ m → ⊥) → times n (m ∷ xs) ≡ times n xs
times-other n m xs ne = go (nat_eq n m) refl
  where
    go : (b : Bool) → nat_eq n m ≡ b → cond b (suc (times n xs)) (times n xs) ≡ times n xs
    go true e = absurd (ne (eqb-true n m e))
    go false e = refl

times-less : (n x : ℕ) (xs : List ℕ) → times n xs ≤ times n (x ∷ xs)
times-less n x xs = go (nat_eq n x)
  where
    go : (b : Bool) → times n xs ≤ cond b (suc (times n xs)) (times n xs)
    go true = omega arith
    go false = omega arith

apart-none : (n : ℕ) (xs : List ℕ) → times n xs ≡ 0 → IsApart n xs
apart-none n [] e = tt
apart-none n (x ∷ xs) e =
    ((λ q. (let z : times n (n ∷ xs) ≡ 0 = subst (λ y. times n (y ∷ xs) ≡ 0) (sym q) e in absurd (omega (arith, z, times-here n xs)))), apart-none n xs (omega (arith, e, times-less n x xs)))

pub apart-once : (xs : List ℕ) → ((n : ℕ) → times n xs ≤ 1) → AreApart xs
apart-once [] h = tt
apart-once (x ∷ xs) h = (apart-none x xs (omega (arith, h x, times-here x xs)), apart-once xs (λ n. omega (arith, h n, times-less n x xs)))

pub below-none : (k : ℕ) (xs : List ℕ) → ((n : ℕ) → k ≤ n → times n xs ≡ 0) → AreBelow k xs
below-none k [] h = tt
below-none k (x ∷ xs) h = (go (cases_order x k), below-none k xs (λ n l. (let z : times n (x ∷ xs) ≡ 0 = h n l in omega (arith, z, times-less n x xs))))
  where
    go : (x ≡ k) ⊎ ((x < k) ⊎ (k < x)) → x < k
    go (inl e) = let z : times x (x ∷ xs) ≡ 0 = h x (omega arith) in absurd (omega (arith, z, times-here x xs))
    go (inr (inl l)) = l
    go (inr (inr g)) = let z : times x (x ∷ xs) ≡ 0 = h x (omega arith) in absurd (omega (arith, z, times-here x xs))
