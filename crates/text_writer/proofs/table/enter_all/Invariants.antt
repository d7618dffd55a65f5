use Rattle.std.proofs.Common.{◌≡◌, ◌++◌, drop}
use Rattle.text_writer.specs.Tables.{enter_all}
use Rattle.text_writer.proofs.table.enter_all.Given as goal

abbrev pub invariant-loop-e : goal.invariant-loop-e
invariant-loop-e l = record {
  nodes : (enter_all (drop l.e-index l.es) l.nodes.keys).nodes ≡ (enter_all l.es l.fn.nodes.keys).nodes;
  places : l.places ++ (enter_all (drop l.e-index l.es) l.nodes.keys).places ≡ (enter_all l.es l.fn.nodes.keys).places;
}
