use Rattle.std.proofs.Common.{length, subst, sym}
use Rattle.core_expr.specs.Nodes.{IsNode}
use Rattle.term_shapes.specs.Shapes.{node_in}
use Rattle.term_shapes.proofs.ShapeLaws.{cell_fits, found_cell, missing_cell}
use Rattle.term_shapes.proofs.form.seek.Goals as goal

pub returns-clause-some : goal.returns-clause-some
returns-clause-some c = found_cell c.seek_cell.result c.args.bank.now c.args.shape c.cell_for.result c.cell_for.ensures c.seek_cell.ensures.some

pub returns-clause-none : goal.returns-clause-none
returns-clause-none c =
    missing_cell c.seek_cell.result c.args.bank.now c.args.shape c.cell_for.result c.cell_for.ensures
    (subst (λ k. IsNode (node_in k) (length c.args.bank.now)) (sym c.cell_for.ensures) (cell_fits c.args.shape (length c.args.bank.now) c.requires.whole c.requires.below))
    c.seek_cell.ensures.none
