-- Lists that a loop goes over.
use Rattle.std.proofs.Common.{◌≡◌, ℕ, zero, suc, ◌+◌, ◌<◌, ◌≤◌, List, [], ◌∷◌, drop, length, slice_index_or, refl, arith}
use Rattle.theorem_leaves.proofs.Walking.{rest-from}

-- the rest of a list, where there is one more
pub next-one : {A : Type 0} (xs : List A) (i : ℕ) (x : A) → i < length xs → x ≡ slice_index_or xs i x → drop i xs ≡ x ∷ drop (i + 1) xs
next-one xs i x h s = rest-from xs i (i + 1) x (omega arith) h s

-- and where there is none
pub all-past : {A : Type 0} (xs : List A) (i : ℕ) → length xs ≤ i → drop i xs ≡ []
all-past [] zero h = refl
all-past [] (suc i) h = refl
all-past (x ∷ xs) zero h = absurd (omega arith)
all-past (x ∷ xs) (suc i) h = all-past xs i (omega arith)
