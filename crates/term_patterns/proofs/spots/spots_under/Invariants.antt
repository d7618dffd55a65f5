use Rattle.std.proofs.Common.{◌≡◌, ◌++◌, drop}
use Rattle.term_patterns.specs.Depths.{spots_under}
use Rattle.term_patterns.proofs.spots.spots_under.Given as goal

abbrev pub invariant-loop-k : goal.invariant-loop-k
invariant-loop-k l = l.spots.items ++ spots_under l.is_binder l.depth (drop l.k l.parts) ≡ spots_under l.is_binder l.depth l.parts
