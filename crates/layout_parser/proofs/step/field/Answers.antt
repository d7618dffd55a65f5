use Rattle.std.proofs.Common.{rules, arith}
use Rattle.std.proofs.lemmas.Grind.{common_steps}
use Rattle.layout_parser.specs.Reading.{field}
use Rattle.layout_parser.proofs.step.field.Goals as goal

pub returns-in-Ok : goal.returns-in-Ok
unfolding field
returns-in-Ok c = first_of (search rules, grind (arith, common_steps))

pub returns-in_ok-of-in-Err : goal.returns-in_ok-of-in-Err
unfolding field
returns-in_ok-of-in-Err c = first_of (search rules, grind (arith, common_steps))
