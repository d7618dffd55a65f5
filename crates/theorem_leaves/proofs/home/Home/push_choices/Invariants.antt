use Rattle.std.proofs.Common.{◌≡◌, ◌++◌, map, drop}
use Rattle.theorem_leaves.specs.Moves.{choice}
use Rattle.theorem_leaves.proofs.home.Home.push_choices.Given as goal

abbrev pub invariant-loop-name : goal.invariant-loop-name
invariant-loop-name l = l.found ++ map (choice l.self l.set) (drop l.name-index l.names) ≡ l.fn.found ++ map (choice l.self l.set) l.names
