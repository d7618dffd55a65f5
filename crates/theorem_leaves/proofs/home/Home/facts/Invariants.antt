use Rattle.std.proofs.Common.{◌≡◌, ◌++◌, map, drop}
use Rattle.symbol_table.specs.Symbols.{symbol_at}
use Rattle.plain_syntax.specs.Syntax as syntax
use Rattle.known_facts.specs.Shown.{facts_of}
use Rattle.usable_facts.specs.Proofs.{facts}
use Rattle.theorem_leaves.specs.Homes.{means, entries}
use Rattle.theorem_leaves.proofs.home.Home.facts.Given as goal

abbrev pub invariant-loop-fact : goal.invariant-loop-fact
invariant-loop-fact l =
    facts_of l.found ++ facts (means l.self) (symbol_at l.outline) (entries l.self) (map syntax.fact_of (drop l.fact-index l.facts))
    ≡ facts (means l.self) (symbol_at l.outline) (entries l.self) (map syntax.fact_of l.facts)
