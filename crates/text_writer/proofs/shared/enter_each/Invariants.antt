use Rattle.std.proofs.Common.{◌≡◌, ◌++◌, drop}
use Rattle.core_expr.specs.Nodes.{picked}
use Rattle.proof_text.specs.Texts.{trees_in}
use Rattle.text_writer.specs.Tables.{enter_all}
use Rattle.text_writer.specs.Shared.{AreNoted}
use Rattle.text_writer.proofs.shared.enter_each.Given as goal

abbrev pub invariant-loop-root : goal.invariant-loop-root
invariant-loop-root l = record {
  table : (enter_all (picked (trees_in l.nodes) (drop l.root-index l.roots)) l.growing.table.keys).nodes ≡ (enter_all (picked (trees_in l.nodes) l.roots) l.fn.growing.table.keys).nodes;
  places : l.places ++ (enter_all (picked (trees_in l.nodes) (drop l.root-index l.roots)) l.growing.table.keys).places ≡ (enter_all (picked (trees_in l.nodes) l.roots) l.fn.growing.table.keys).places;
  noted : AreNoted l.nodes l.growing.table.keys l.growing.places.items;
}
