use Rattle.std.proofs.Common.{length, subst, sym, ◌∙◌, ap}
use Rattle.std.specs.Prelude.{IfOk}
use Rattle.core_expr.specs.Nodes.{IsNode}
use Rattle.term_bank.specs.Banks.{HasTree}
use Rattle.term_shapes.specs.Shapes.{node_in, cell_of}
use Rattle.term_shapes.specs.Forms.{cell_over}
use Rattle.term_shapes.proofs.FormLaws.{form_node, over_node, form_tree}
use Rattle.term_shapes.proofs.table.add_form.Goals as goal

pub cell_over-requires : goal.cell_over-requires
cell_over-requires c = subst (λ k. IsNode (node_in k) (length c.args.places.now)) (sym c.cell_for.ensures) (form_node (length c.args.places.now) c.args.form c.requires.form)

pub make_cell-requires : goal.make_cell-requires
make_cell-requires c =
    subst (λ k. IsNode (node_in k) (length c.args.bank.now)) (sym (c.cell_over.ensures ∙ ap (cell_over c.args.places.now) c.cell_for.ensures))
    (over_node (length c.args.bank.now) c.args.places.now (cell_of c.args.form) c.requires.places (form_node (length c.args.places.now) c.args.form c.requires.form))

pub returns-clause-ok : goal.returns-clause-ok
returns-clause-ok c =
    subst (λ t. IfOk c.make_cell.result (λ k. HasTree c.make_cell.new.bank k t)) (form_tree c.args.bank.now c.args.places.now c.args.form c.cell_for.result c.cell_over.result c.cell_for.ensures c.cell_over.ensures c.requires.form) c.make_cell.ensures.ok
