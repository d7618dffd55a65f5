use Rattle.std.proofs.Common.{◌≡◌, ◌++◌, flat_map, drop}
use Rattle.leaf_jobs.specs.Forms.{forms_of_theorem}
use Rattle.leaf_jobs.proofs.gather.add_chapter.Given as goal

abbrev pub invariant-loop-theorem : goal.invariant-loop-theorem
invariant-loop-theorem l = l.found.items ++ flat_map forms_of_theorem (drop l.theorem-index l.chapter.theorems) ≡ l.fn.found.items ++ flat_map forms_of_theorem l.chapter.theorems
