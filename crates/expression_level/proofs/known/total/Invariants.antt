use Rattle.std.proofs.Common.{◌≡◌}
use Rattle.expression_level.specs.Weights.{join, total}
use Rattle.expression_level.proofs.known.total.Given as goal

abbrev pub invariant-loop-weight : goal.invariant-loop-weight
invariant-loop-weight l = join l.all (total l.weight-iterator.rest.items) ≡ total l.fn.weights.items
