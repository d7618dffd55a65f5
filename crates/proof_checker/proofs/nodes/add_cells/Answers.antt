use Rattle.std.proofs.Common.{◌≡◌, ◌+◌, rules, map, drop, subst}
use Rattle.core_expr.specs.Nodes.{picked, tree_over, trees_from}
use Rattle.term_bank.specs.Banks.{HasTree}
use Rattle.term_bank.proofs.InstLaws.{Extends-trans}
use Rattle.proof_checker.specs.Tables.{node_in, cells_of}
use Rattle.proof_checker.proofs.NodeLaws.{table_next, table_step}
use Rattle.proof_checker.proofs.nodes.add_cells.Goals as goal

pub add_cell-requires-clause-node : goal.add_cell-requires-clause-node
add_cell-requires-clause-node c =
    let n = table_next node_in c.loop-i.bank c.loop-i.places.items c.args.cells.now c.loop-i.i c.cell_at-cell.result (trees_from (picked c.args.bank.now c.args.places.now.items) (cells_of c.args.cells.now)) c.loop-i-test.true c.cell_at-cell.ensures c.loop-i.invariant.0 in
    let p : c.as_slice.result.now ≡ c.loop-i.places.items = search rules in
    rw p n.nodes.0

pub loop-i-preserved : goal.loop-i-preserved
loop-i-preserved c =
    let b = c.loop-i.bank in
    let n = table_next node_in b c.loop-i.places.items c.args.cells.now c.loop-i.i c.cell_at-cell.result (trees_from (picked c.args.bank.now c.args.places.now.items) (cells_of c.args.cells.now)) c.loop-i-test.true c.cell_at-cell.ensures c.loop-i.invariant.0 in
    let p : c.as_slice.result.now ≡ c.loop-i.places.items = search rules in
    let h : HasTree c.add_cell.new.bank c.in_ok-place.place (tree_over (picked b c.loop-i.places.items) (node_in c.cell_at-cell.result)) = subst (λ ps. HasTree c.add_cell.new.bank c.in_ok-place.place (tree_over (picked b ps) (node_in c.cell_at-cell.result))) p c.in_ok-place.ensures.ok in (
      table_step b c.add_cell.new.bank c.loop-i.places.items c.push.new.self.items c.in_ok-place.place (node_in c.cell_at-cell.result) (map node_in (drop (c.loop-i.i + 1) c.args.cells.now)) (trees_from (picked c.args.bank.now c.args.places.now.items) (cells_of c.args.cells.now)) c.add_cell.ensures.extends n h (search rules),
      Extends-trans c.args.bank.now b c.add_cell.new.bank c.loop-i.invariant.1 c.add_cell.ensures.extends,
    )
