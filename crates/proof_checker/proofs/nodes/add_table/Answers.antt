use Rattle.std.proofs.Common.{◌≡◌, rules, map, drop, ◌+◌}
use Rattle.core_expr.specs.Nodes.{picked, tree_over, trees_of}
use Rattle.seq_calculus.specs.Lists.{node_of}
use Rattle.term_bank.specs.Banks.{HasTree, node_over}
use Rattle.term_bank.proofs.InstLaws.{Extends-trans}
use Rattle.proof_checker.proofs.NodeLaws.{table_next, table_step}
use Rattle.proof_checker.proofs.nodes.add_table.Goals as goal

pub loop-node-preserved : goal.loop-node-preserved
loop-node-preserved c =
    let b = c.loop-node.bank in
    let n = table_next node_of b c.loop-node.places.items c.args.nodes.now c.loop-node.node-index c.node-item.result (trees_of (map node_of c.args.nodes.now)) c.loop-node-test.true c.node-item.is c.loop-node.invariant.0 in
    let p : c.as_slice.result.now ≡ c.loop-node.places.items = search rules in
    let h : HasTree c.add_node.new.bank c.in_ok-place.place (tree_over (picked b c.loop-node.places.items) (node_of c.node-item.result)) = coe 0 1 (i. HasTree c.add_node.new.bank c.in_ok-place.place (tree_over (picked b (p i)) (node_over c.node-item.result.head (c.as_slice-numbers.ensures i) (c.as_slice-parts.ensures i)))) c.in_ok-place.ensures.ok in (
      table_step b c.add_node.new.bank c.loop-node.places.items c.push.new.self.items c.in_ok-place.place (node_of c.node-item.result) (map node_of (drop (c.loop-node.node-index + 1) c.args.nodes.now)) (trees_of (map node_of c.args.nodes.now)) c.add_node.ensures.extends n h (search rules),
      Extends-trans c.args.bank.now b c.add_node.new.bank c.loop-node.invariant.1 c.add_node.ensures.extends,
    )
