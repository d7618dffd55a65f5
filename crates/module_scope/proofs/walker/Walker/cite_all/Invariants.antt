use Rattle.std.proofs.Common.{◌≡◌, drop, map}
use Rattle.plain_syntax.specs.Syntax.{fact_of}
use Rattle.module_scope.specs.Names.{each, fact_names}
use Rattle.module_scope.specs.Known.{book_of}
use Rattle.module_scope.proofs.walker.Walker.cite_all.Given as goal

abbrev pub invariant-loop-fact : goal.invariant-loop-fact
invariant-loop-fact l = each fact_names (map fact_of l.facts) (book_of l.fn.self) ≡ each fact_names (map fact_of (drop l.fact-index l.facts)) (book_of l.self)
