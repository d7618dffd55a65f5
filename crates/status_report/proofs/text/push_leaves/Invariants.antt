use Rattle.std.proofs.Common.{◌≡◌, ◌++◌, flat_map, drop}
use Rattle.status_report.specs.Texts.{leaf_line}
use Rattle.status_report.proofs.text.push_leaves.Given as goal

abbrev pub invariant-loop-leaf : goal.invariant-loop-leaf
invariant-loop-leaf l = l.out.items ++ flat_map leaf_line (drop l.leaf-index l.leaves) ≡ l.fn.out.items ++ flat_map leaf_line l.leaves
