use Rattle.std.proofs.Common.{◌≡◌, ◌++◌, drop}
use Rattle.theorem_leaves.specs.Moves as moves
use Rattle.theorem_leaves.proofs.home.Home.choices.Given as goal

abbrev pub invariant-loop-group : goal.invariant-loop-group
invariant-loop-group l = l.found ++ moves.choices l.self (drop l.group-index l.groups) ≡ moves.choices l.self l.groups
