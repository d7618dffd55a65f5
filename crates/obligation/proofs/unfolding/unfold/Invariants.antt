use Rattle.std.proofs.Common.{◌≡◌, ◌-◌, drop, length}
use Rattle.obligation.specs.Unfolding.{unfolded}
use Rattle.obligation.proofs.unfolding.unfold.Given as goal

abbrev pub invariant-loop-k : goal.invariant-loop-k
invariant-loop-k l = l.unfolded ≡ unfolded (drop (length l.defs - l.k) l.defs) l.e
