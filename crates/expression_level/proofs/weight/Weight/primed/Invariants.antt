use Rattle.std.proofs.Common.{◌≡◌}
use Rattle.expression_level.specs.Weights.{primed_first}
use Rattle.expression_level.proofs.weight.Weight.primed.Given as goal

abbrev pub invariant-loop-position : goal.invariant-loop-position
invariant-loop-position l = l.flags.items ≡ primed_first l.self.uses l.position
