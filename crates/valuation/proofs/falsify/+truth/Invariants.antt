use Rattle.std.proofs.Common.{◌+◌, ◌*◌}
use Rattle.valuation.proofs.falsify.+truth.Given as goal

abbrev pub decreases-operand : goal.decreases-operand
decreases-operand l = 2 * l.i

abbrev pub decreases-truth : goal.decreases-truth
decreases-truth l = 2 * l.i + 1
