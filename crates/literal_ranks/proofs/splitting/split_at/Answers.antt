use Rattle.std.proofs.Common.{Some}
use Rattle.term_bank.specs.Banks.{tree_at}
use Rattle.branch_state.specs.Parts.{shown}
use Rattle.literal_ranks.specs.Dividing.{dividing}
use Rattle.branch_values.proofs.Reasoning.{known_grown}
use Rattle.literal_ranks.proofs.SplitLaws.{division_within, divided_at}
use Rattle.literal_ranks.proofs.splitting.split_at.Goals as goal

pub divided-requires-clause-division : goal.divided-requires-clause-division
divided-requires-clause-division c = division_within c.division_of.new.bank c.in_ok-division.field-0 (dividing (tree_at c.args.bank.now c.args.f) (tree_at c.args.bank.now c.args.u)) c.in-Some.division c.in_ok-division.ensures.ok c.in-Some.is

pub divided-requires-clause-known : goal.divided-requires-clause-known
divided-requires-clause-known c = known_grown c.args.bank.now c.division_of.new.bank (shown c.args.parts.now).now c.division_of.ensures.extends c.requires.known

pub returns-in_ok-given-in-Some-clause-ok : goal.returns-in_ok-given-in-Some-clause-ok
returns-in_ok-given-in-Some-clause-ok c =
    divided_at c.args.bank.now c.division_of.new.bank c.divided.new.bank (shown c.args.parts.now).now c.args.f c.args.u c.in_ok-division.field-0 c.in-Some.division (Some c.in_ok-given-in-Some.given) c.division_of.ensures.extends c.requires.known c.requires.below c.in_ok-division.ensures.ok c.in-Some.is c.in_ok-given-in-Some.ensures.ok
