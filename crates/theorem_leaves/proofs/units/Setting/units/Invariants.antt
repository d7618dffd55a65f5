use Rattle.std.proofs.Common.{◌≡◌, drop}
use Rattle.theorem_leaves.specs.Passing.{At, IsAt}
use Rattle.theorem_leaves.specs.Theorems.{passed_units}
use Rattle.theorem_leaves.proofs.units.Setting.units.Given as goal

abbrev pub invariant-loop-unit : goal.invariant-loop-unit
invariant-loop-unit l =
    (a : At) → IsAt l.fn.reading a → (b : At) × IsAt l.reading b × (passed_units l.self (drop l.unit-index l.units) b ≡ passed_units l.self l.units a)
