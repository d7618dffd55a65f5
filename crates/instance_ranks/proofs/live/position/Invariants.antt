use Rattle.std.proofs.Common.{◌≡◌, ℕ, ◌<◌, false}
use Rattle.std.specs.Prelude.{nat_le}
use Rattle.instance_ranks.specs.Lives.{live_at}
use Rattle.instance_ranks.proofs.live.position.Given as goal

abbrev pub invariant-loop-i : goal.invariant-loop-i
invariant-loop-i l = (k : ℕ) → k < l.i → nat_le l.count (live_at l.list k).count ≡ false
