use Rattle.std.proofs.Common.{◌≡◌, ◌++◌, ◌-◌, drop, length, reverse}
use Rattle.proof_checker.proofs.side.Side.begin.Given as goal

abbrev pub invariant-loop-i : goal.invariant-loop-i
invariant-loop-i l = (l.self.trail ≡ l.fn.self.trail ++ reverse (drop (length l.items - l.i) l.items)) × (l.self.base ≡ length l.fn.self.trail)
