use Rattle.std.proofs.Common.{◌≡◌, ◌++◌, drop}
use Rattle.usable_facts.specs.Proofs.{definitions}
use Rattle.theorem_leaves.specs.Homes.{means, entries, no_steps}
use Rattle.theorem_leaves.proofs.home.Home.numbers.Given as goal

abbrev pub invariant-loop-name : goal.invariant-loop-name
invariant-loop-name l = l.found ++ definitions (means l.self) no_steps (entries l.self) (drop l.name-index l.names) ≡ definitions (means l.self) no_steps (entries l.self) l.names
