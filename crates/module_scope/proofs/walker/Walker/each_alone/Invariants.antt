use Rattle.std.proofs.Common.{◌≡◌, drop, map}
use Rattle.plain_syntax.specs.Syntax.{term_of, terms_of}
use Rattle.module_scope.specs.Names.{each_alone}
use Rattle.module_scope.specs.Known.{book_of}
use Rattle.module_scope.proofs.walker.Walker.each_alone.Given as goal

abbrev pub invariant-loop-node : goal.invariant-loop-node
invariant-loop-node l =
    each_alone (terms_of (map term_of l.nodes)) (book_of l.fn.self) ≡ each_alone (terms_of (map term_of (drop l.node-index l.nodes))) (book_of l.self)
