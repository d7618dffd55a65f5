use Rattle.std.proofs.Common.{◌≡◌, drop, fold}
use Rattle.module_scope.specs.Known.{book_of}
use Rattle.module_scope.specs.Visits.{bind_group}
use Rattle.module_scope.proofs.walker.Walker.bind_groups.Given as goal

abbrev pub invariant-loop-group : goal.invariant-loop-group
invariant-loop-group l = fold (bind_group l.sort) (book_of l.fn.self) l.groups ≡ fold (bind_group l.sort) (book_of l.self) (drop l.group-index l.groups)
