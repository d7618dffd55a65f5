use Rattle.std.proofs.Common.{◌≡◌, map, drop}
use Rattle.plain_syntax.specs.Syntax.{unit_of}
use Rattle.theorem_leaves.specs.Homes.{means}
use Rattle.theorem_leaves.specs.Keeping.{kept_of, keep_units}
use Rattle.theorem_leaves.proofs.keys.Keys.units.Given as goal

abbrev pub invariant-loop-unit : goal.invariant-loop-unit
invariant-loop-unit l = keep_units (means l.home) (map unit_of (drop l.unit-index l.units)) (kept_of l.self) ≡ keep_units (means l.home) (map unit_of l.units) (kept_of l.fn.self)
