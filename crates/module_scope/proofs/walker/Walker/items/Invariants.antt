use Rattle.std.proofs.Common.{◌≡◌, drop, map}
use Rattle.plain_syntax.specs.Syntax.{item_of}
use Rattle.module_scope.specs.Names.{each, item_names}
use Rattle.module_scope.specs.Known.{book_of}
use Rattle.module_scope.proofs.walker.Walker.items.Given as goal

abbrev pub invariant-loop-item : goal.invariant-loop-item
invariant-loop-item l = each item_names (map item_of l.items) (book_of l.fn.self) ≡ each item_names (map item_of (drop l.item-index l.items)) (book_of l.self)
