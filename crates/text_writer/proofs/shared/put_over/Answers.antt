use Rattle.std.proofs.Common.{◌≡◌, ap, sym, ◌∙◌}
use Rattle.std.proofs.lemmas.List.{get_or_default}
use Rattle.proof_text.specs.Frames.{no_node}
use Rattle.proof_text.specs.Texts.{tree_in}
use Rattle.text_writer.specs.Tables.{enter}
use Rattle.text_writer.specs.Shared.{here}
use Rattle.text_writer.proofs.SharedLaws.{puts, noted-more}
use Rattle.text_writer.proofs.shared.put_over.Goals as goal
use Rattle.text_writer.proofs.shared.put_over.Goals.{In_ok-place}

entered : (c : In_ok-place) → here c.put.new.nodes.keys c.in_ok-place.place ≡ enter (tree_in c.args.nodes.now c.args.i) c.args.growing.now.table.keys
entered c =
    let n = c.index-nodes-i.is ∙ get_or_default c.args.nodes.now c.args.i c.index-nodes-i.result no_node c.requires.node in
    let e = c.in_ok-node.ensures ∙ ap (λ n. record { head = n.head; numbers = n.numbers; parts = c.args.parts }) n in
    puts c.node_shows.ensures c.args.nodes.now c.requires.noted.nodes c.args.i c.requires.node c.args.growing.now.table.keys c.put.new.nodes.keys c.args.growing.now.places.items c.args.parts c.in_ok-place.place c.in_ok-node.node
    c.requires.noted c.requires.parts e c.in_ok-place.ensures.nodes c.in_ok-place.ensures.place

pub returns-clause-entered : goal.returns-clause-entered
returns-clause-entered c = entered (goal.at.returns-clause-entered c).In_ok-place

pub returns-clause-noted : goal.returns-clause-noted
returns-clause-noted c =
    noted-more c.args.nodes.now c.args.growing.now.table.keys c.args.growing.now.places.items c.args.i (here c.put.new.nodes.keys c.in_ok-place.place) c.requires.node c.requires.noted (sym (entered (goal.at.returns-clause-noted c).In_ok-place))
