use Rattle.std.proofs.Common.{◌≡◌, drop}
use Rattle.branch_values.specs.Memos.{in_numbers}
use Rattle.branch_values.proofs.grounds.contains.Given as goal

abbrev pub invariant-loop-x : goal.invariant-loop-x
invariant-loop-x l = in_numbers l.list l.number ≡ in_numbers (drop l.x-index l.list) l.number
