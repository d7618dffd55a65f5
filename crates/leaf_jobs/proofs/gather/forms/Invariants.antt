use Rattle.std.proofs.Common.{◌≡◌, ◌++◌, flat_map, drop}
use Rattle.leaf_jobs.specs.Forms.{forms_of_chapter}
use Rattle.leaf_jobs.proofs.gather.forms.Given as goal

abbrev pub invariant-loop-chapter : goal.invariant-loop-chapter
invariant-loop-chapter l = l.found.items ++ flat_map forms_of_chapter (drop l.chapter-index l.chapters) ≡ flat_map forms_of_chapter l.chapters
