use Rattle.std.proofs.Common.{◌≡◌, ◌++◌, map, drop}
use Rattle.symbol_table.specs.Symbols.{symbol_at}
use Rattle.plain_syntax.specs.Syntax as syntax
use Rattle.usable_facts.specs.Proofs.{hidden}
use Rattle.theorem_leaves.specs.Homes.{means, entries}
use Rattle.theorem_leaves.proofs.home.Home.hidden.Given as goal

abbrev pub invariant-loop-fact : goal.invariant-loop-fact
invariant-loop-fact l =
    l.found ++ hidden (means l.self) (symbol_at l.outline) (entries l.self) (map syntax.fact_of (drop l.fact-index l.facts))
    ≡ hidden (means l.self) (symbol_at l.outline) (entries l.self) (map syntax.fact_of l.facts)
