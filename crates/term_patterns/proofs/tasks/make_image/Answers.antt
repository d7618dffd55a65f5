use Rattle.std.proofs.Common.{◌≡◌, ◌∙◌, length, map, rules, ap, sym, subst}
use Rattle.std.specs.Prelude.{IsTrue}
use Rattle.core_expr.specs.Nodes.{AreBelow}
use Rattle.term_bank.specs.Banks.{HasNode}
use Rattle.term_bank.specs.Loose.{is_binder}
use Rattle.term_bank.specs.Slots.{node_of}
use Rattle.term_patterns.specs.Depths.{spots_under}
use Rattle.term_patterns.specs.Walked.{image_or}
use Rattle.term_patterns.proofs.MadeLaws.{fits_images, images_below, made_node}
use Rattle.term_patterns.proofs.tasks.make_image.Goals as goal

pub make-requires-2-clause-form : goal.make-requires-2-clause-form
make-requires-2-clause-form c =
    let n = node_of c.unwrap-node.result.now in
    let h : HasNode c.args.bank.now c.args.spot.node n = search (rules, c.node.ensures.some) in
    let vs = c.in_ok-spots.spots.items in
    let ev : vs ≡ spots_under (is_binder n.head) c.args.spot.depth n.parts = c.in_ok-spots.ensures ∙ (λ i. spots_under (c.is_binder.ensures i) c.args.spot.depth (c.as_slice.ensures.value i)) in
    subst IsTrue (sym (fits_images c.args.images.now n c.args.spot.depth vs c.as_slice-4.result.now c.as_slice-5.result.now (c.as_slice-4.ensures.value ∙ c.in_ok-numbers.ensures.items ∙ c.as_slice-2.ensures.value) ev (c.as_slice-5.ensures.value ∙ c.in_ok-parts.ensures ∙ ap (map (image_or c.args.images.now)) c.as_slice-3.ensures.value))) h.node.0

pub make-requires-2-clause-below : goal.make-requires-2-clause-below
make-requires-2-clause-below c =
    let n = node_of c.unwrap-node.result.now in
    let b : AreBelow c.args.spot.node n.parts = search (rules, c.node.ensures.below) in
    let vs = c.in_ok-spots.spots.items in
    let ev : vs ≡ spots_under (is_binder n.head) c.args.spot.depth n.parts = c.in_ok-spots.ensures ∙ (λ i. spots_under (c.is_binder.ensures i) c.args.spot.depth (c.as_slice.ensures.value i)) in
    images_below (length c.args.bank.now) c.args.spot.node c.args.spot.depth (is_binder n.head) c.args.images.now vs n.parts c.as_slice-5.result.now c.requires.images c.requires.node b ev (c.as_slice-5.ensures.value ∙ c.in_ok-parts.ensures ∙ ap (map (image_or c.args.images.now)) c.as_slice-3.ensures.value)

pub returns-clause-ok : goal.returns-clause-ok
returns-clause-ok c =
    let n = node_of c.unwrap-node.result.now in
    let h : HasNode c.args.bank.now c.args.spot.node n = search (rules, c.node.ensures.some) in
    let b : AreBelow c.args.spot.node n.parts = search (rules, c.node.ensures.below) in
    let vs = c.in_ok-spots.spots.items in
    let ev : vs ≡ spots_under (is_binder n.head) c.args.spot.depth n.parts = c.in_ok-spots.ensures ∙ (λ i. spots_under (c.is_binder.ensures i) c.args.spot.depth (c.as_slice.ensures.value i)) in
    made_node c.make-2.result c.args.bank.now c.make-2.new.self c.args.s c.args.spot c.args.images.now n vs c.as_slice-4.result.now c.as_slice-5.result.now c.if-spot-s.false h b (c.as_slice-4.ensures.value ∙ c.in_ok-numbers.ensures.items ∙ c.as_slice-2.ensures.value) ev (c.as_slice-5.ensures.value ∙ c.in_ok-parts.ensures ∙ ap (map (image_or c.args.images.now)) c.as_slice-3.ensures.value) c.make-2.ensures.ok
