use Rattle.std.proofs.Common.{rules, subst, sym, arith, length}
use Rattle.core_expr.specs.Nodes.{AreBelow}
use Rattle.term_bank.specs.Banks.{HasNode, tree_at}
use Rattle.term_bank.specs.Slots.{node_of}
use Rattle.term_bank.proofs.TableLaws.{AreBelow-more}
use Rattle.term_shapes.specs.Shapes.{HasShape, named_parts}
use Rattle.term_shapes.proofs.ShapeLaws.{has_shape, shape_below}
use Rattle.term_shapes.proofs.read.shape_at.Goals as goal

pub returns-clause-form : goal.returns-clause-form
returns-clause-form c =
    let h : HasNode c.args.bank.now c.args.i (node_of c.unwrap.result.now) = search rules in
    let b : AreBelow c.args.i (node_of c.unwrap.result.now).parts = search rules in
    subst (HasShape c.args.bank.now (tree_at c.args.bank.now c.args.i)) (sym c.node_shape.ensures) (has_shape c.args.bank.now c.args.i (node_of c.unwrap.result.now) h b)

pub returns-clause-below : goal.returns-clause-below
returns-clause-below c =
    let h : HasNode c.args.bank.now c.args.i (node_of c.unwrap.result.now) = search rules in
    let b : AreBelow c.args.i (node_of c.unwrap.result.now).parts = search rules in
    subst (λ s. AreBelow c.args.i (named_parts s)) (sym c.node_shape.ensures) (shape_below c.args.bank.now c.args.i (node_of c.unwrap.result.now) h b)

pub returns-clause-within : goal.returns-clause-within
returns-clause-within c =
    let h : HasNode c.args.bank.now c.args.i (node_of c.unwrap.result.now) = search rules in
    let b : AreBelow c.args.i (node_of c.unwrap.result.now).parts = search rules in
    subst (λ s. AreBelow (length c.args.bank.now) (named_parts s)) (sym c.node_shape.ensures) (AreBelow-more c.args.i (length c.args.bank.now) _ (omega arith) (shape_below c.args.bank.now c.args.i (node_of c.unwrap.result.now) h b))
