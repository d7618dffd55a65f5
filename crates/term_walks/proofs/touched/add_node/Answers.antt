use Rattle.term_bank.proofs.MarkLaws.{on_ok}
use Rattle.std.proofs.Common.{rules}
use Rattle.core_expr.specs.Nodes.{AreBelow}
use Rattle.term_bank.specs.Banks.{HasNode}
use Rattle.term_bank.specs.Slots.{node_of}
use Rattle.term_walks.proofs.WalkLaws.{added_of}
use Rattle.term_walks.proofs.touched.add_node.Goals as goal

pub returns : goal.returns
returns c =
    let n = node_of c.unwrap.result.now in
    let h : HasNode c.args.bank.now c.args.i n = search (rules, c.node.ensures.some) in
    let b : AreBelow c.args.i n.parts = search (rules, c.node.ensures.below) in
    on_ok c.add_parts.result _ _ (added_of c.args.bank.now c.args.i n c.as_slice.result.now c.args.todo.now.keys c.add_parts.new.todo.keys h b c.as_slice.ensures.value) c.add_parts.ensures
