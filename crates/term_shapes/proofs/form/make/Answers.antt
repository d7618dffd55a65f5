use Rattle.std.proofs.Common.{length, subst, sym}
use Rattle.std.specs.Prelude.{IfOk}
use Rattle.core_expr.specs.Nodes.{IsNode}
use Rattle.term_bank.specs.Banks.{HasTree}
use Rattle.term_shapes.specs.Shapes.{node_in}
use Rattle.term_shapes.proofs.ShapeLaws.{cell_fits, cell_made}
use Rattle.term_shapes.proofs.form.make.Goals as goal

pub make_cell-requires : goal.make_cell-requires
make_cell-requires c = subst (λ k. IsNode (node_in k) (length c.args.bank.now)) (sym c.cell_for.ensures) (cell_fits c.args.shape (length c.args.bank.now) c.requires.whole c.requires.below)

pub returns-clause-ok : goal.returns-clause-ok
returns-clause-ok c = subst (λ t. IfOk c.make_cell.result (λ k. HasTree c.make_cell.new.bank k t)) (cell_made c.args.bank.now c.args.shape c.cell_for.result c.cell_for.ensures) c.make_cell.ensures.ok
