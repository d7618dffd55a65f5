-- How many numbers a rising list can have.
use Rattle.std.proofs.Common.{ℕ, suc, ◌+◌, ◌≤◌, ◌<◌, List, [], ◌∷◌, ◌++◌, length, arith, length-append}
use Rattle.claim_board.proofs.Lists.{rising_snoc}
use Rattle.std.specs.List.{AllByRecursion}
use Rattle.claim_board.specs.Views.{IsRising}

pub at_least : (x : ℕ) (ys : List ℕ) → AllByRecursion (λ y. x < y) ys → AllByRecursion (λ y. x ≤ y) ys
at_least x [] h = tt
at_least x (y ∷ ys) h = ((let lt : x < y = h.0 in omega arith), at_least x ys h.1)

rising_from : (low n : ℕ) (xs : List ℕ) → IsRising xs → AllByRecursion (λ x. low ≤ x) xs → AllByRecursion (λ x. x < n) xs → low ≤ n → low + length xs ≤ n
rising_from low n [] rising above below le = omega arith
rising_from low n (x ∷ xs) rising above below le =
    let lt : x < n = below.0 in
    let ge : low ≤ x = above.0 in
    let rest : suc x + length xs ≤ n = rising_from (suc x) n xs rising.1 rising.0 below.1 (omega arith) in
    omega arith

pub rising_length : (n : ℕ) (xs : List ℕ) → IsRising xs → AllByRecursion (λ x. x < n) xs → length xs ≤ n
rising_length n xs rising below =
    let fits = rising_from 0 n xs rising (all xs) below (omega arith) in omega arith
  where
    all : (xs : List ℕ) → AllByRecursion (λ x. 0 ≤ x) xs
    all [] = tt
    all (x ∷ xs) = (omega arith, all xs)

pub all_snoc : {X : Type 0} (P : X → Type 0) (xs : List X) (y : X) → AllByRecursion P xs → P y → AllByRecursion P (xs ++ y ∷ [])
all_snoc P [] y h p = (p, tt)
all_snoc P (x ∷ xs) y h p = (h.0, all_snoc P xs y h.1 p)

-- what a draw adds leaves the list within the jobs
pub record Drawn (jobs n : ℕ) (mine : List ℕ) : Type 0 where
  pub rising : IsRising (mine ++ n ∷ [])
  pub below : AllByRecursion (λ x. x < jobs) (mine ++ n ∷ [])
  pub room : length mine < jobs

pub drawn : (jobs n : ℕ) (mine : List ℕ) → IsRising mine → AllByRecursion (λ x. x < jobs) mine → AllByRecursion (λ x. x < n) mine → n < jobs → Drawn jobs n mine
drawn jobs n mine rising below above lt =
    let more : IsRising (mine ++ n ∷ []) = rising_snoc mine n rising above in
    let within : AllByRecursion (λ x. x < jobs) (mine ++ n ∷ []) = all_snoc (λ x. x < jobs) mine n below lt in
    let most = rising_length jobs (mine ++ n ∷ []) more within in
    let long = length-append mine (n ∷ []) in
    record { rising = more; below = within; room = omega arith }
