use Rattle.std.proofs.Common.{rules, ap, suc, ◌∙◌}
use Rattle.core_expr.specs.Nodes.{AreBelow}
use Rattle.term_bank.specs.Banks.{HasNode}
use Rattle.term_bank.specs.Slots.{node_of}
use Rattle.term_order.specs.Sizes.{sizes_all}
use Rattle.term_order.proofs.SizeLaws.{sizes_push, size_below}
use Rattle.term_order.proofs.sizes.add_size.Goals as goal

pub size_over-requires : goal.size_over-requires
size_over-requires c =
    let n = node_of c.unwrap.result.now in
    let b : AreBelow c.args.i n.parts = search (rules, c.node.ensures.below) in
    size_below c.args.sizes.now.items c.as_slice.result.now n.parts c.as_slice-2.result.now c.args.i c.requires.next b c.as_slice.ensures.value c.as_slice-2.ensures.value

pub returns-clause-sizes : goal.returns-clause-sizes
returns-clause-sizes c =
    let n = node_of c.unwrap.result.now in
    let g : HasNode c.args.bank.now c.args.i n = search (rules, c.node.ensures.some) in
    let b : AreBelow c.args.i n.parts = search (rules, c.node.ensures.below) in
    sizes_push c.args.bank.now c.args.sizes.now.items c.push.new.self.items c.as_slice-2.result.now c.args.i c.in_ok-size.size n g b c.requires.next c.as_slice-2.ensures.value (c.in_ok-size.ensures ∙ ap (λ xs. suc (sizes_all xs c.as_slice-2.result.now)) c.as_slice.ensures.value) c.in_ok-push.ensures.items c.requires.sizes
