use Rattle.std.proofs.Common.{◌≡◌, ◌≤◌, length, take}
use Rattle.std.specs.List.{fold, flat_map}
use Rattle.core_expr.specs.Equality.{row_fed}
use Rattle.core_expr.proofs.compare.hash_rows.Given as goal

abbrev pub invariant-loop-i : goal.invariant-loop-i
invariant-loop-i g l = (l.i ≤ length l.rows) × (l.state ≡ fold g.H.Hasher.write l.initial.state (flat_map row_fed (take l.i l.rows)))
