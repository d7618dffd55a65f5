use Rattle.std.proofs.Common.{◌≡◌, drop}
use Rattle.module_scope.specs.Known.{book_of}
use Rattle.module_scope.specs.Names as spec
use Rattle.module_scope.proofs.walker.Walker.bind_all.Given as goal

abbrev pub invariant-loop-decl : goal.invariant-loop-decl
invariant-loop-decl l =
    spec.each (spec.declare_name l.sort 0) l.decls (book_of l.fn.self) ≡ spec.each (spec.declare_name l.sort 0) (drop l.decl-index l.decls) (book_of l.self)
