use Rattle.std.proofs.Common.{◌≡◌, drop}
use Rattle.module_scope.specs.Names.{each, declare}
use Rattle.module_scope.specs.Known.{book_of}
use Rattle.module_scope.proofs.walker.Walker.declare_all.Given as goal

abbrev pub invariant-loop-decl : goal.invariant-loop-decl
invariant-loop-decl l = each (declare l.sort l.level) l.decls (book_of l.fn.self) ≡ each (declare l.sort l.level) (drop l.decl-index l.decls) (book_of l.self)
