use Rattle.std.proofs.Common.{◌≡◌, drop}
use Rattle.branch_values.specs.Memos.{merged_numbers}
use Rattle.branch_values.proofs.grounds.merge.Given as goal

abbrev pub invariant-loop-number : goal.invariant-loop-number
invariant-loop-number l = merged_numbers l.first l.second ≡ merged_numbers l.list.items (drop l.number-index l.second)
