use Rattle.std.proofs.Common.{rules, ap, sym, ◌∙◌}
use Rattle.core_expr.specs.Nodes.{picked}
use Rattle.term_bank.specs.Banks.{HasNode}
use Rattle.term_bank.specs.Slots.{node_of}
use Rattle.term_shapes.proofs.ShapeLaws.{shown_parts}
use Rattle.term_shapes.proofs.read.parts_at.Goals as goal

pub returns-clause-trees : goal.returns-clause-trees
returns-clause-trees c =
    let h : HasNode c.args.bank.now c.args.i (node_of c.unwrap.result.now) = search rules in
    shown_parts c.args.bank.now c.args.i (node_of c.unwrap.result.now) h ∙ ap (picked c.args.bank.now) (sym c.as_slice.ensures.value)
