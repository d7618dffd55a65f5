use Rattle.std.proofs.Common.{◌≡◌, take, true}
use Rattle.core_expr.specs.Rename.{all_formed}
use Rattle.core_expr.proofs.rename.all_formed.Given as goal

abbrev pub invariant-loop-pair : goal.invariant-loop-pair
invariant-loop-pair l = all_formed (take l.pair-index l.by) ≡ true
