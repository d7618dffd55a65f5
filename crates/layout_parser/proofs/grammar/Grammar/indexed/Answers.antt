use Rattle.std.proofs.Common.{rules, arith}
use Rattle.std.proofs.lemmas.Grind.{common_steps}
use Rattle.layout_parser.specs.Reading.{indexed}
use Rattle.layout_parser.proofs.grammar.Grammar.indexed.Goals as goal

pub returns-in-Ok : goal.returns-in-Ok
unfolding indexed
returns-in-Ok g c = first_of (search rules, grind (arith, common_steps))

pub returns-in_ok-fault-in-Err : goal.returns-in_ok-fault-in-Err
unfolding indexed
returns-in_ok-fault-in-Err g c = first_of (search rules, grind (arith, common_steps))
