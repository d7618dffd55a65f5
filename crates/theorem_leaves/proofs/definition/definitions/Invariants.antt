use Rattle.std.proofs.Common.{◌≡◌, ◌++◌, map, drop}
use Rattle.plain_syntax.specs.Syntax as syntax
use Rattle.usable_facts.specs.Definitions as spec
use Rattle.theorem_leaves.proofs.definition.definitions.Given as goal

abbrev pub invariant-loop-i : goal.invariant-loop-i
invariant-loop-i l = l.found.items ++ spec.in_modules l.scoped l.i (map syntax.module_of (drop l.i l.modules)) ≡ spec.in_modules l.scoped 0 (map syntax.module_of l.modules)
