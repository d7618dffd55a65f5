use Rattle.std.proofs.Common.{◌≡◌, drop}
use Rattle.theorem_leaves.specs.Passing.{Passed, IsPassed}
use Rattle.theorem_leaves.specs.Modules.{passed_modules, nothing}
use Rattle.theorem_leaves.proofs.modules.Whole.modules.Given as goal

abbrev pub invariant-loop-number : goal.invariant-loop-number
invariant-loop-number l = (b : Passed) × IsPassed l.passed b × (passed_modules l.self l.number (drop l.number l.modules) b ≡ passed_modules l.self 0 l.modules nothing)
