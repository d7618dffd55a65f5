use Rattle.std.proofs.Common.{◌≡◌, ◌++◌, drop}
use Rattle.plain_syntax.specs.Syntax.{each_def}
use Rattle.usable_facts.specs.Proofs as spec
use Rattle.theorem_leaves.specs.Homes.{means, entries, no_steps}
use Rattle.theorem_leaves.proofs.home.Home.defined.Given as goal

abbrev pub invariant-loop-def : goal.invariant-loop-def
invariant-loop-def l = l.found ++ spec.defined (means l.self) no_steps (entries l.self) (each_def (drop l.def-index l.defs)) ≡ spec.defined (means l.self) no_steps (entries l.self) (each_def l.defs)
