use Rattle.std.proofs.Common.{◌≡◌, ◌++◌, map, drop}
use Rattle.plain_syntax.specs.Syntax.{term_of}
use Rattle.theorem_leaves.specs.Moves.{witness}
use Rattle.theorem_leaves.proofs.home.Home.witnesses.Given as goal

abbrev pub invariant-loop-node : goal.invariant-loop-node
invariant-loop-node l = l.found ++ map (λ n. witness l.self (term_of n)) (drop l.node-index l.nodes) ≡ map (λ n. witness l.self (term_of n)) l.nodes
