-- The parts of a node at a depth, one by one.
use Rattle.std.proofs.Common.{◌≡◌, ℕ, zero, suc, ◌+◌, ◌<◌, Bool, true, false, ◌&&◌, nat_eq, List, [], ◌∷◌, length, drop, get_or, refl, ap, sym, ◌∙◌, arith}
use Rattle.std.proofs.lemmas.Bool.Decides.{nat_tests}
use Rattle.term_patterns.specs.Depths.{spot, deeper, spots_under}

-- the tests of places
first_of_two : (n : ℕ) → nat_eq 1 (suc (suc n)) ≡ false
first_of_two n = grind (arith, nat_tests)

next_test : (k n : ℕ) → nat_eq (k + 1) n ≡ nat_eq (suc k + 1) (suc n)
next_test k n = go (nat_eq (k + 1) n) refl
  where
    go : (x : Bool) → nat_eq (k + 1) n ≡ x → x ≡ nat_eq (suc k + 1) (suc n)
    go true e = grind (arith, nat_tests)
    go false e = grind (arith, nat_tests)

pub last_deeper : (b : Bool) (d : ℕ) (ps : List ℕ) (k : ℕ) → k < length ps → spots_under b d (drop k ps) ≡ spot (get_or ps k 0) (deeper (b && nat_eq (k + 1) (length ps)) d) ∷ spots_under b d (drop (k + 1) ps)
last_deeper b d [] k h = absurd (omega arith)
last_deeper true d (p ∷ []) zero h = refl
last_deeper false d (p ∷ []) zero h = refl
last_deeper true d (p ∷ q ∷ ps) zero h = ap (λ x. spot p (deeper x d) ∷ spots_under true d (q ∷ ps)) (sym (first_of_two (length ps)))
last_deeper false d (p ∷ q ∷ ps) zero h = refl
last_deeper b d (p ∷ ps) (suc k) h =
    let e : suc (k + 1) ≡ suc k + 1 = omega arith in
    last_deeper b d ps k (omega arith) ∙ (λ i. spot (get_or ps k 0) (deeper (b && next_test k (length ps) i) d) ∷ spots_under b d (drop (e i) (p ∷ ps)))
