use Rattle.std.proofs.Common.{◌≡◌, ℕ, ◌+◌, ◌-◌, ◌≤◌, get_or, length}
use Rattle.proof_checker.proofs.trail.widen.Given as goal

abbrev pub invariant-loop-latest : goal.invariant-loop-latest
invariant-loop-latest l = ((x : ℕ) → get_or l.latest.items x 0 ≡ get_or l.fn.latest.items x 0) × (length l.fn.latest.items ≤ length l.latest.items)

abbrev pub decreases-loop-latest : goal.decreases-loop-latest
decreases-loop-latest l = (l.item + 1) - length l.latest.items
