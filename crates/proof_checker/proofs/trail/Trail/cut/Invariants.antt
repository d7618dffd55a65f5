use Rattle.std.proofs.Common.{◌≡◌, ◌≤◌, length, take}
use Rattle.proof_checker.specs.Latest.{items_of, befores_of, IsKept}
use Rattle.proof_checker.proofs.trail.Trail.cut.Given as goal

abbrev pub invariant-loop-self : goal.invariant-loop-self
invariant-loop-self l = IsKept (items_of l.self-inside.kept.items) (befores_of l.self-inside.kept.items) l.self-inside.latest.items × (l.count ≤ length l.self-inside.kept.items) × (take l.count (items_of l.self-inside.kept.items) ≡ take l.count l.fn.self)

abbrev pub decreases-loop-self : goal.decreases-loop-self
decreases-loop-self l = length l.self-inside.kept.items
