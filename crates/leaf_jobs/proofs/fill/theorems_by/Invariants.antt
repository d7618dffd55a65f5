use Rattle.std.proofs.Common.{◌≡◌, drop}
use Rattle.leaf_jobs.specs.Stopping.{stops}
use Rattle.leaf_jobs.specs.Filling.{theorems_by}
use Rattle.leaf_jobs.proofs.Walks.{behind}
use Rattle.leaf_jobs.proofs.fill.theorems_by.Given as goal

abbrev pub invariant-loop-theorem : goal.invariant-loop-theorem
invariant-loop-theorem l = behind l.found (theorems_by (stops l.stop) l.shown.rest.items (drop l.theorem-index l.theorems)) ≡ theorems_by (stops l.stop) l.fn.shown.rest.items l.theorems
