use Rattle.std.proofs.Common.{drop, map}
use Rattle.core_expr.specs.Nodes.{trees_of}
use Rattle.term_bank.specs.Banks.{Extends}
use Rattle.seq_calculus.specs.Lists.{node_of}
use Rattle.proof_checker.proofs.NodeLaws.{IsTable}
use Rattle.proof_checker.proofs.nodes.add_table.Given as goal

abbrev pub invariant-loop-node : goal.invariant-loop-node
invariant-loop-node l = IsTable l.bank l.places.items (map node_of (drop l.node-index l.nodes)) (trees_of (map node_of l.nodes)) × Extends l.fn.bank l.bank
