use Rattle.std.proofs.Common.{ap}
use Rattle.std_names.specs.declared.operators.Fix.TheVariants.{Postfix}
use Rattle.std_names.specs.Operators.{operator, postfix_rows}
use Rattle.operator_chain.specs.Listed.{sign_of}
use Rattle.operator_chain.proofs.chain.Ending.precedence.Goals as goal

pub returns-in-Prime : goal.returns-in-Prime
unfolding operator postfix_rows
returns-in-Prime c = ap (λ e. operator (sign_of e) Postfix) c.in-Prime.is

pub returns-in-Index : goal.returns-in-Index
unfolding operator postfix_rows
returns-in-Index c = ap (λ e. operator (sign_of e) Postfix) c.in-Index.is

pub returns-in-Field : goal.returns-in-Field
unfolding operator postfix_rows
returns-in-Field c = ap (λ e. operator (sign_of e) Postfix) c.in-Field.is
