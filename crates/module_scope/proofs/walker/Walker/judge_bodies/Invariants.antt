use Rattle.std.proofs.Common.{◌≡◌, drop, fold}
use Rattle.module_scope.specs.Visits.{body_step}
use Rattle.module_scope.specs.Known.{book_of}
use Rattle.module_scope.proofs.walker.Walker.judge_bodies.Given as goal

abbrev pub invariant-loop-def : goal.invariant-loop-def
invariant-loop-def l = fold body_step (book_of l.fn.self) l.defs ≡ fold body_step (book_of l.self) (drop l.def-index l.defs)
