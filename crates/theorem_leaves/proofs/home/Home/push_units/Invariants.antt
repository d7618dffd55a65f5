use Rattle.std.proofs.Common.{◌≡◌, ◌++◌, map, drop}
use Rattle.plain_syntax.specs.Syntax as syntax
use Rattle.usable_facts.specs.Definitions as spec
use Rattle.theorem_leaves.specs.Homes.{means, entries}
use Rattle.theorem_leaves.proofs.home.Home.push_units.Given as goal

abbrev pub invariant-loop-unit : goal.invariant-loop-unit
invariant-loop-unit l =
    l.found.items ++ spec.in_units (entries l.self) (means l.self) (map syntax.unit_of (drop l.unit-index l.units))
    ≡ l.fn.found.items ++ spec.in_units (entries l.self) (means l.self) (map syntax.unit_of l.units)
