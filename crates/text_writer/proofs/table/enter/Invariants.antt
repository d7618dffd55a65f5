use Rattle.std.proofs.Common.{◌≡◌, [], drop}
use Rattle.core_expr.specs.Flat.{rows_of}
use Rattle.text_writer.specs.Rows.{run}
use Rattle.text_writer.proofs.table.enter.Given as goal

abbrev pub invariant-loop-i : goal.invariant-loop-i
invariant-loop-i l =
    run (drop l.i (rows_of l.e)) (record { nodes = l.nodes.keys; places = l.places.items }) ≡ run (rows_of l.e) (record { nodes = l.fn.nodes.keys; places = [] })
