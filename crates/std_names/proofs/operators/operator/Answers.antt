use Rattle.std.proofs.Common.{sym, ◌∙◌, ap}
use Rattle.std_names.specs.Operators.{operator, prefix_rows, infix_rows, postfix_rows}
use Rattle.std_names.proofs.operators.operator.Goals as goal

pub returns-in-Prefix : goal.returns-in-Prefix
unfolding operator prefix_rows
returns-in-Prefix c = c.row_in.ensures ∙ ap (operator c.args.sign.now) (sym c.in-Prefix.is)

pub returns-in-Infix : goal.returns-in-Infix
unfolding operator infix_rows
returns-in-Infix c = c.row_in-in-Infix.ensures ∙ ap (operator c.args.sign.now) (sym c.in-Infix.is)

pub returns-in-Postfix : goal.returns-in-Postfix
unfolding operator postfix_rows
returns-in-Postfix c = c.row_in-in-Postfix.ensures ∙ ap (operator c.args.sign.now) (sym c.in-Postfix.is)
