use Rattle.std.proofs.Common.{Some}
use Rattle.term_bank.proofs.InstLaws.{Extends-trans}
use Rattle.branch_state.specs.Parts.{shown}
use Rattle.branch_values.specs.Judging.{truth_of}
use Rattle.branch_values.proofs.Reasoning.{known_grown}
use Rattle.literal_ranks.proofs.SplitLaws.{within_kept, divided_kept}
use Rattle.literal_ranks.proofs.splitting.divided.Goals as goal

pub grounds_on-requires-clause-known : goal.grounds_on-requires-clause-known
grounds_on-requires-clause-known c = known_grown c.args.bank.now c.value_on.new.bank (shown c.args.parts.now).now c.value_on.ensures.extends c.requires.known

pub divide-requires-clause-division : goal.divide-requires-clause-division
divide-requires-clause-division c = within_kept c.args.bank.now c.grounds_on.new.bank c.args.division.now (Extends-trans c.args.bank.now c.value_on.new.bank c.grounds_on.new.bank c.value_on.ensures.extends c.grounds_on.ensures.extends) c.requires.division

pub returns-clause-ok : goal.returns-clause-ok
returns-clause-ok c =
    let us = c.value_on.new.bank in
    let vs = c.grounds_on.new.bank in
    divided_kept c.args.bank.now us vs (shown c.args.parts.now).now c.args.f c.args.u c.args.division.now c.in_ok-grounds.grounds.items (truth_of c.in_ok-value.value) (Some c.in_ok-given.given) c.value_on.ensures.extends c.grounds_on.ensures.extends c.requires.known c.requires.below c.requires.division c.in_ok-value.ensures.value c.in_ok-grounds.ensures.grounds (rw c.as_slice.ensures.value at c.in_ok-given.ensures)
