use Rattle.std.proofs.Common.{◌≡◌, ◌++◌, drop, length}
use Rattle.core_expr.specs.Nodes.{AreBelow}
use Rattle.formula_rules.specs.Answers.{gathered}
use Rattle.formula_rules.proofs.given.fetch.Given as goal

abbrev pub invariant-loop-place : goal.invariant-loop-place
invariant-loop-place l = (l.indices.items ++ gathered l.places (drop l.place-index l.at) ≡ gathered l.places l.at) × AreBelow (length l.places) (drop l.place-index l.at)
