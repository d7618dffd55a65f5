use Rattle.std.proofs.Common.{◌≡◌, drop}
use Rattle.tla_ast.specs.declared.fault.Kind.TheVariants as kind
use Rattle.module_scope.specs.Names.{each, refused}
use Rattle.module_scope.specs.Known.{book_of}
use Rattle.module_scope.proofs.walker.Walker.refuse_levels.Given as goal

abbrev pub invariant-loop-place : goal.invariant-loop-place
invariant-loop-place l = each (refused kind.Level) l.places (book_of l.fn.self) ≡ each (refused kind.Level) (drop l.place-index l.places) (book_of l.self)
