use Rattle.std.proofs.Common.{◌≡◌, ◌++◌, drop}
use Rattle.plain_syntax.specs.Syntax.{each_def}
use Rattle.usable_facts.specs.Definitions as spec
use Rattle.theorem_leaves.specs.Homes.{means, entries}
use Rattle.theorem_leaves.proofs.home.Home.push_each.Given as goal

abbrev pub invariant-loop-def : goal.invariant-loop-def
invariant-loop-def l =
    l.found.items ++ spec.each_definition (entries l.self) (means l.self) (each_def (drop l.def-index l.defs))
    ≡ l.fn.found.items ++ spec.each_definition (entries l.self) (means l.self) (each_def l.defs)
