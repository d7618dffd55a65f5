use Rattle.std.proofs.Common.{◌≡◌, drop}
use Rattle.leaf_jobs.specs.Stopping.{stops}
use Rattle.leaf_jobs.specs.Filling.{modules_by}
use Rattle.leaf_jobs.proofs.Walks.{behind}
use Rattle.leaf_jobs.proofs.fill.modules_by.Given as goal

abbrev pub invariant-loop-chapter : goal.invariant-loop-chapter
invariant-loop-chapter l = behind l.found (modules_by (stops l.stop) l.shown.rest.items (drop l.chapter-index l.chapters)) ≡ modules_by (stops l.stop) l.fn.shown.rest.items l.chapters
