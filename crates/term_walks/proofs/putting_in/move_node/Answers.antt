use Rattle.std.proofs.Common.{rules, ap, ◌∙◌}
use Rattle.core_expr.specs.Nodes.{AreBelow}
use Rattle.term_bank.specs.Banks.{HasNode}
use Rattle.term_bank.specs.Slots.{node_of}
use Rattle.term_walks.specs.Walks.{image_at}
use Rattle.std.proofs.Common.{map}
use Rattle.term_walks.proofs.MoveLaws.{images_below, remade_of}
use Rattle.std.proofs.Common.{length}
use Rattle.term_walks.proofs.putting_in.move_node.Goals as goal

pub make-requires-clause-below : goal.make-requires-clause-below
make-requires-clause-below c =
    let n = node_of c.unwrap-node.result.now in
    let b : AreBelow c.args.i n.parts = search (rules, c.node.ensures.below) in
    images_below (length c.args.bank.now) c.args.i c.args.images.now.entries n.parts c.as_slice-4.result.now c.requires.images c.requires.node b (c.as_slice-4.ensures.value ∙ c.in_ok-parts.ensures ∙ ap (map (image_at c.args.images.now.entries)) c.as_slice-2.ensures.value)

pub returns-clause-ok : goal.returns-clause-ok
returns-clause-ok c =
    let n = node_of c.unwrap-node.result.now in
    let h : HasNode c.args.bank.now c.args.i n = search (rules, c.node.ensures.some) in
    remade_of c.make.result c.args.bank.now c.make.new.self c.args.images.now.entries c.args.i n c.as_slice-3.result.now c.as_slice-4.result.now c.count.ensures.distinct h (c.as_slice-3.ensures.value ∙ c.in_ok-numbers.ensures.items ∙ c.as_slice.ensures.value) (c.as_slice-4.ensures.value ∙ c.in_ok-parts.ensures ∙ ap (map (image_at c.args.images.now.entries)) c.as_slice-2.ensures.value) c.make.ensures.ok
