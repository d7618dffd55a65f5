use Rattle.std.proofs.Common.{◌≡◌, ◌++◌, flat_map, drop}
use Rattle.leaf_jobs.specs.Forms.{form_of_leaf}
use Rattle.leaf_jobs.proofs.gather.add_theorem.Given as goal

abbrev pub invariant-loop-leaf : goal.invariant-loop-leaf
invariant-loop-leaf l = l.found.items ++ flat_map form_of_leaf (drop l.leaf-index l.theorem.leaves) ≡ l.fn.found.items ++ flat_map form_of_leaf l.theorem.leaves
