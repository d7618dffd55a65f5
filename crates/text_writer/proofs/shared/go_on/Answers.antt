use Rattle.std.proofs.Common.{◌≡◌, ◌++◌, [], ◌∷◌, length, ap, sym, ◌∙◌, subst, subst₂, arith, None}
use Rattle.std.proofs.lemmas.List.{get_or_default}
use Rattle.core_expr.specs.Nodes.{AreBelow}
use Rattle.proof_text.specs.Frames.{no_node, parts_at}
use Rattle.text_writer.specs.Shared.{enter_last_first, here, last_first}
use Rattle.text_writer.proofs.SharedLaws.{node-below, waits, below-last_first}
use Rattle.text_writer.proofs.TreeLaws.{below-append}
use Rattle.text_writer.proofs.shared.go_on.Goals as goal
use Rattle.text_writer.proofs.shared.go_on.Goals.{After-as_slice}

pub returns-in-Some-clause-entered : goal.returns-in-Some-clause-entered
returns-in-Some-clause-entered c =
    let n = c.requires.noted in
    let e = get_or_default c.args.growing.now.places.items c.args.i None c.index.result.now (omega (arith, n.count, c.requires.node)) ∙ sym c.index.ensures ∙ c.in-Some.is in
    ap (enter_last_first c.args.nodes.now c.args.waiting.now.items) (sym (n.stand c.args.i c.in-Some.place e))

parts : (c : After-as_slice) → c.as_slice-parts.result.now ≡ parts_at c.args.nodes.now c.args.i
parts c = c.as_slice-parts.ensures ∙ ap (λ n. n.parts) (get_or_default c.args.nodes.now c.args.i c.index-nodes-i.result no_node c.requires.node)

pub known-requires : goal.known-requires
known-requires c =
    let k : length c.args.nodes.now ≡ length c.as_slice.result.now = omega (arith, c.requires.noted.count, ap length c.as_slice.ensures.value) in
    let b = node-below c.args.nodes.now c.requires.noted.nodes c.args.i c.requires.node in
    subst₂ AreBelow k (sym (parts c)) b

pub returns-in_ok-wait_for-in-None-clause-entered : goal.returns-in_ok-wait_for-in-None-clause-entered
returns-in_ok-wait_for-in-None-clause-entered c =
    let p = parts (goal.at.returns-in_ok-wait_for-in-None-clause-entered c).After-as_slice in
    let e = c.in_ok-wait_for-in-None.ensures ∙ (λ j. c.in_ok-push-in-None.ensures.items j ++ last_first (p j)) in
    waits c.node_shows.ensures c.args.nodes.now c.requires.noted.nodes c.args.i c.requires.node c.args.waiting.now.items c.wait_for.new.waiting.items (here c.args.growing.now.table.keys 0) e

pub returns-in_ok-wait_for-in-None-clause-waiting : goal.returns-in_ok-wait_for-in-None-clause-waiting
returns-in_ok-wait_for-in-None-clause-waiting c =
    let n = length c.args.nodes.now in
    let p = parts (goal.at.returns-in_ok-wait_for-in-None-clause-waiting c).After-as_slice in
    let e = c.in_ok-wait_for-in-None.ensures ∙ (λ j. c.in_ok-push-in-None.ensures.items j ++ last_first (p j)) in
    let b = node-below c.args.nodes.now c.requires.noted.nodes c.args.i c.requires.node in
    subst (AreBelow n) (sym e) (below-append n _ _ (below-append n c.args.waiting.now.items (c.args.i ∷ []) c.requires.waiting (c.requires.node, tt)) (below-last_first n (parts_at c.args.nodes.now c.args.i) b))
