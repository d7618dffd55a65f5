use Rattle.std.proofs.Common.{◌≡◌, drop, fold}
use Rattle.module_scope.specs.Visits.{choice_set}
use Rattle.module_scope.specs.Known.{book_of}
use Rattle.module_scope.proofs.walker.Walker.group_sets.Given as goal

abbrev pub invariant-loop-group : goal.invariant-loop-group
invariant-loop-group l = fold choice_set (book_of l.fn.self) l.groups ≡ fold choice_set (book_of l.self) (drop l.group-index l.groups)
