-- Where two lists of indices first differ.
use Rattle.std.specs.Prelude.{◌≡◌, ℕ, ◌<◌, min, Option, Some, None, List, length}
use Rattle.std.proofs.Common.{get_or}

-- the lists agree before the place k
abbrev pub AgreeBefore : List ℕ → List ℕ → ℕ → Type 0
AgreeBefore xs ys k = (m : ℕ) → m < k → get_or xs m 0 ≡ get_or ys m 0

-- the first place of both lists at which they differ
abbrev pub IsPlace : List ℕ → List ℕ → Option ℕ → Type 0
IsPlace xs ys None = AgreeBefore xs ys (min (length xs) (length ys))
IsPlace xs ys (Some k) = (k < length xs) × (k < length ys) × AgreeBefore xs ys k × (get_or xs k 0 ≡ get_or ys k 0 → ⊥)
