use Rattle.std.proofs.Common.{◌≡◌, ◌++◌, drop}
use Rattle.theorem_leaves.specs.Moves as moves
use Rattle.theorem_leaves.proofs.home.Home.takes.Given as goal

abbrev pub invariant-loop-group : goal.invariant-loop-group
invariant-loop-group l = l.found ++ moves.takes l.self (drop l.group-index l.groups) ≡ moves.takes l.self l.groups
