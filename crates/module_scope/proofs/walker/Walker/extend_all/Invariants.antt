use Rattle.std.proofs.Common.{◌≡◌, drop}
use Rattle.module_scope.specs.Known.{book_of, exports_of}
use Rattle.module_scope.specs.Names.{each}
use Rattle.module_scope.specs.Resolution.{extend}
use Rattle.module_scope.proofs.walker.Walker.extend_all.Given as goal

abbrev pub invariant-loop-name : goal.invariant-loop-name
invariant-loop-name l = each (extend (exports_of l.exports)) l.extends (book_of l.fn.self) ≡ each (extend (exports_of l.exports)) (drop l.name-index l.extends) (book_of l.self)
