-- A recursion on a count of turns, beside a loop that counts up.
use Rattle.std.proofs.Common.{◌≡◌, ℕ, suc, ◌+◌, ◌-◌, ◌<◌, arith}

-- one turn more is left before a turn than after it
pub turn : (n at : ℕ) → at < n → n - at ≡ suc (n - (at + 1))
turn n at below = omega arith
