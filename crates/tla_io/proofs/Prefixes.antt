-- Bytes taken or written piece by piece are one prefix.
use Rattle.std.proofs.Common.{◌≡◌, ◌+◌, ◌-◌, ◌++◌, ℕ, zero, suc, List, [], ◌∷◌, ap, sym, ◌∙◌, refl, arith, take, drop, length, append_assoc, length-drop}
use Rattle.std.specs.Prelude.{Option, None, Some}
use Rattle.tla_io.specs.Told.{Bytes, with_more}

nothing : (m : ℕ) → take m (drop {A = ℕ} 0 []) ≡ []
nothing zero = refl
nothing (suc m) = refl

pub take_in_two : (n m : ℕ) (xs : List ℕ) → take n xs ++ take m (drop n xs) ≡ take (n + m) xs
take_in_two zero m xs = grind arith
take_in_two (suc n) m [] = let e : suc n + m ≡ suc (n + m) = omega arith in rw e (nothing m)
take_in_two (suc n) m (x ∷ xs) = ap (λ t. x ∷ t) (take_in_two n m xs) ∙ sym (ap (λ k. take k (x ∷ xs)) (let e : suc n + m ≡ suc (n + m) = omega arith in e))

pub with_more_twice : (told : Option Bytes) (xs ys : Bytes) → with_more (with_more told xs) ys ≡ with_more told (xs ++ ys)
with_more_twice None xs ys = refl
with_more_twice (Some t) xs ys = ap (λ (u : Bytes). Some u) (append_assoc t xs ys)

pub with_more_then : (before now : Option Bytes) (bytes : Bytes) (n m : ℕ) → now ≡ with_more before (take n bytes) → with_more now (take m (drop n bytes)) ≡ with_more before (take (n + m) bytes)
with_more_then before now bytes n m e =
    ap (λ (t : Option Bytes). with_more t (take m (drop n bytes))) e ∙ with_more_twice before (take n bytes) (take m (drop n bytes))
    ∙ ap (λ (xs : Bytes). with_more before xs) (take_in_two n m bytes)

take_whole : (n : ℕ) (xs : List ℕ) → n ≡ length xs → take n xs ≡ xs
take_whole zero [] e = refl
take_whole zero (x ∷ xs) e = absurd (omega arith)
take_whole (suc n) [] e = absurd (omega arith)
take_whole (suc n) (x ∷ xs) e = ap (λ t. x ∷ t) (take_whole n xs (omega arith))

-- what a slice to the end is
pub rest_is : (xs : List ℕ) (n : ℕ) → take (length xs - n) (drop n xs) ≡ drop n xs
rest_is xs n = take_whole (length xs - n) (drop n xs) (sym (length-drop n xs))
