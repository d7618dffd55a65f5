-- The front of a text whose bytes are of one sort.
use Rattle.std.proofs.Common.{◌≡◌, ℕ, suc, ◌+◌, Bool, true, false, cond, List, [], ◌∷◌, take, refl, arith}
use Rattle.std.specs.List.{prefix_len, list_all}

pub all-prefix : (p : ℕ → Bool) (xs : List ℕ) → list_all p (take (prefix_len p xs) xs) ≡ true
all-prefix p [] = refl
all-prefix p (x ∷ xs) = go (all-prefix p xs) (p x) refl
  where
    go : list_all p (take (prefix_len p xs) xs) ≡ true → (b : Bool) → p x ≡ b → list_all p (take (cond b (1 + prefix_len p xs) 0) (x ∷ xs)) ≡ true
    go all true e =
        let s : 1 + prefix_len p xs ≡ suc (prefix_len p xs) = omega arith in
        rw s (rw e all)
    go all false e = refl
