use Rattle.std.proofs.Common.{refl, ◌∙◌}
use Rattle.term_bank.specs.Banks.{tree_at}
use Rattle.branch_state.specs.Parts.{shown}
use Rattle.tableau_search.specs.Entries.{branch_of}
use Rattle.branch_values.proofs.Reasoning.{stood_at, known_grown, has_reason, reasoned_kept}
use Rattle.branch_values.proofs.reason.reason_at.Goals as goal

pub returns-then-has-clause-ok : goal.returns-then-has-clause-ok
returns-then-has-clause-ok c =
    let ts = c.args.bank.now in
    let es = (shown c.args.parts.now).now in
    has_reason ts (branch_of ts es) (tree_at ts c.args.i) c.args.i c.given_by.result (record { within = c.requires.within; tree = refl }) (stood_at ts es c.args.i c.has.result c.count-count.ensures.distinct c.requires.known c.requires.within c.has.ensures ∙ c.if-has.true) c.given_by.ensures

pub standing_mirror-requires-clause-known : goal.standing_mirror-requires-clause-known
standing_mirror-requires-clause-known c = known_grown c.args.bank.now c.mirror_of.new.bank (shown c.args.parts.now).now c.mirror_of.ensures.extends c.requires.known

pub standing_denial-requires-clause-known : goal.standing_denial-requires-clause-known
standing_denial-requires-clause-known c = known_grown c.args.bank.now c.mirror_of.new.bank (shown c.args.parts.now).now c.mirror_of.ensures.extends c.requires.known

pub standing_mirror_denial-requires-clause-known : goal.standing_mirror_denial-requires-clause-known
standing_mirror_denial-requires-clause-known c = known_grown c.args.bank.now c.mirror_of.new.bank (shown c.args.parts.now).now c.mirror_of.ensures.extends c.requires.known

pub returns-clause-ok : goal.returns-clause-ok
returns-clause-ok c =
    let ts = c.args.bank.now in
    let us = c.mirror_of.new.bank in
    let es = (shown c.args.parts.now).now in
    reasoned_kept ts us es c.args.i c.is_plainly_true.result c.is_plainly_false.result c.standing_mirror.result c.standing_denial.result c.standing_mirror_denial.result c.first_reason.result
    c.mirror_of.ensures.extends c.requires.known
    (stood_at ts es c.args.i c.has.result c.count-count.ensures.distinct c.requires.known c.requires.within c.has.ensures ∙ c.if-has.false)
    c.requires.within c.is_plainly_true.ensures c.standing_mirror.ensures c.standing_denial.ensures c.is_plainly_false.ensures c.standing_mirror_denial.ensures c.first_reason.ensures
