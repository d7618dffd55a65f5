use Rattle.std.proofs.Common.{◌≡◌, take}
use Rattle.expression_level.specs.Weights.{all_uses}
use Rattle.expression_level.proofs.weight.join_uses.Given as goal

abbrev pub invariant-loop-index : goal.invariant-loop-index
invariant-loop-index l = l.uses.items ≡ all_uses l.fn.uses.items (take l.index l.others)
