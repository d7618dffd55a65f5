use Rattle.std.proofs.Common.{◌≡◌, drop}
use Rattle.module_scope.specs.Names.{each, unfolded}
use Rattle.module_scope.specs.Known.{book_of}
use Rattle.module_scope.proofs.walker.Walker.unfold_all.Given as goal

abbrev pub invariant-loop-decl : goal.invariant-loop-decl
invariant-loop-decl l = each unfolded l.decls (book_of l.fn.self) ≡ each unfolded (drop l.decl-index l.decls) (book_of l.self)
