use Rattle.std.proofs.Common.{◌≡◌, length}
use Rattle.core_expr.specs.Nodes.{AreBelow}
use Rattle.proof_text.specs.Texts.{tree_in}
use Rattle.text_writer.specs.Tables.{enter}
use Rattle.text_writer.specs.Shared.{here, enter_last_first, AreNoted}
use Rattle.text_writer.proofs.shared.enter_at.Given as goal

abbrev pub invariant-loop : goal.invariant-loop
invariant-loop l = record {
  entered : enter_last_first l.nodes l.waiting.items (here l.growing.table.keys l.place) ≡ enter (tree_in l.nodes l.root) l.fn.growing.table.keys;
  noted : AreNoted l.nodes l.growing.table.keys l.growing.places.items;
  waiting : AreBelow (length l.nodes) l.waiting.items;
}
