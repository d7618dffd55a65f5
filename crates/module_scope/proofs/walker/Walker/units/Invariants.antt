use Rattle.std.proofs.Common.{◌≡◌, drop, map}
use Rattle.plain_syntax.specs.Syntax.{unit_of}
use Rattle.module_scope.specs.Names.{each, unit}
use Rattle.module_scope.specs.Known.{book_of}
use Rattle.module_scope.proofs.walker.Walker.units.Given as goal

abbrev pub invariant-loop-unit : goal.invariant-loop-unit
invariant-loop-unit l = each unit (map unit_of l.units) (book_of l.fn.self) ≡ each unit (map unit_of (drop l.unit-index l.units)) (book_of l.self)
