use Rattle.branch_state.specs.Parts.{shown}
use Rattle.tableau_ranks.proofs.KeptLaws.{kept_grown, kept_moved}
use Rattle.tableau_ranks.proofs.StartLaws.{shut_end}
use Rattle.tableau_ranks.proofs.closing.close.Goals as goal

pub returns-in-Some-clause-kept : goal.returns-in-Some-clause-kept
returns-in-Some-clause-kept c =
    let q = c.requires in
    let r = c.in_ok-closing.ensures in
    kept_grown c.args.ranks.now c.close_from.new.bank (shown c.args.parts.now).now r.extends r.distinct q.known q.sized q.looks

pub returns-in-None-clause-kept : goal.returns-in-None-clause-kept
returns-in-None-clause-kept c =
    let us = c.close_from.new.bank in
    let es = (shown c.args.parts.now).now in
    let q = c.requires in
    let r = c.in_ok-closing.ensures in
    let m = c.move_to.ensures in
    let k = kept_grown c.args.ranks.now us es r.extends r.distinct q.known q.sized q.looks in
    kept_moved c.args.ranks.now us c.move_to.new.self es k m.bank m.spare m.metas m.saved (λ h. m.right es h (shut_end us es _ _ c.length.ensures r.closing c.in-None.is))
