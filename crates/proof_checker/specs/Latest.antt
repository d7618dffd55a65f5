-- A list of numbers with the latest place of each.
use Rattle.std.specs.Prelude.{◌≡◌, ℕ, ◌-◌, ◌<◌, ◌≤◌, List, length, map}
use Rattle.std.proofs.Common.{get_or}
use Rattle.proof_checker.specs.declared.trail.Kept.{Kept}

abbrev pub items_of : List Kept → List ℕ
items_of ks = map (λ (k : Kept). k.item) ks

abbrev pub befores_of : List Kept → List ℕ
befores_of ks = map (λ (k : Kept). k.before) ks

-- one more than the last place below n of the number x, or 0
pub record IsLatest (xs : List ℕ) (n x place : ℕ) : Type 0 where
  pub below : place ≤ n
  pub same : 0 < place → get_or xs (place - 1) 0 ≡ x
  pub passed : (j : ℕ) → place ≤ j → j < n → get_or xs j 0 ≡ x → ⊥

pub record IsKept (xs befores latest : List ℕ) : Type 0 where
  pub latest_is : (x : ℕ) → IsLatest xs (length xs) x (get_or latest x 0)
  pub before_is : (p : ℕ) → p < length xs → IsLatest xs p (get_or xs p 0) (get_or befores p 0)
  pub within : (p : ℕ) → p < length xs → get_or xs p 0 < length latest

-- the number x stands at a place from base on
abbrev pub HasFrom : List ℕ → ℕ → ℕ → Type 0
HasFrom xs base x = (j : ℕ) × (base ≤ j) × (j < length xs) × (get_or xs j 0 ≡ x)
