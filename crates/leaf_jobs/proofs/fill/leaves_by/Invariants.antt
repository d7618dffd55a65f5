use Rattle.std.proofs.Common.{◌≡◌, drop}
use Rattle.leaf_jobs.specs.Stopping.{stops}
use Rattle.leaf_jobs.specs.Filling.{leaves_by}
use Rattle.leaf_jobs.proofs.Walks.{behind}
use Rattle.leaf_jobs.proofs.fill.leaves_by.Given as goal

abbrev pub invariant-loop-leaf : goal.invariant-loop-leaf
invariant-loop-leaf l = behind l.found (leaves_by (stops l.stop) l.shown.rest.items (drop l.leaf-index l.leaves)) ≡ leaves_by (stops l.stop) l.fn.shown.rest.items l.leaves
