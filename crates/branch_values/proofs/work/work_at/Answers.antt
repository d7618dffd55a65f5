use Rattle.term_bank.specs.Banks.{tree_at}
use Rattle.branch_state.specs.Parts.{shown}
use Rattle.tableau_search.specs.Entries.{branch_of}
use Rattle.tableau_search.proofs.LiftLaws.{tree_kept}
use Rattle.branch_values.proofs.Reasoning.{some_reason, no_reason}
use Rattle.branch_values.proofs.Planning.{known_work, linked_work}
use Rattle.branch_values.proofs.work.work_at.Goals as goal

pub returns-in-Some-clause-ok : goal.returns-in-Some-clause-ok
returns-in-Some-clause-ok c =
    let ts = c.args.bank.now in
    let us = c.reason_at.new.bank in
    let b = branch_of ts (shown c.args.parts.now).now in
    known_work us b c.args.i (tree_at ts c.args.i) c.in-Some.reason (tree_kept ts us c.args.i c.reason_at.ensures.extends c.requires.within)
    (some_reason us b (tree_at ts c.args.i) c.in_ok-reason.field-0 c.in-Some.reason c.in_ok-reason.ensures.ok c.in-Some.is)

pub returns-in-None-clause-ok : goal.returns-in-None-clause-ok
returns-in-None-clause-ok c =
    let ts = c.args.bank.now in
    let us = c.reason_at.new.bank in
    let b = branch_of ts (shown c.args.parts.now).now in
    linked_work us b c.args.i (tree_at ts c.args.i) c.link_at.result (tree_kept ts us c.args.i c.reason_at.ensures.extends c.requires.within)
    (no_reason us b (tree_at ts c.args.i) c.in_ok-reason.field-0 c.in_ok-reason.ensures.ok c.in-None.is)
    c.link_at.ensures.link c.link_at.ensures.below
