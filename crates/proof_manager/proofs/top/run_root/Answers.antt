use Rattle.command_words.specs.Requests.{asked_by}
use Rattle.proof_manager.specs.Causes.{IsJust, IsDecided, read_in}
use Rattle.proof_manager.proofs.Reporting.{ends, of-reported}
use Rattle.proof_manager.proofs.top.run_root.Goals as goal

pub returns-in-Ok-clause-report : goal.returns-in-Ok-clause-report
returns-in-Ok-clause-report g c =
    ends c.run_checked.result (g.S.Shelf.folder c.args.shelf.now) (asked_by c.args.request) (read_in c.in-Ok.checked) _ _ c.in-Ok.ensures.told c.run_checked.ensures.report

pub returns-in-Ok-clause-just : goal.returns-in-Ok-clause-just
returns-in-Ok-clause-just g c =
    let a = asked_by c.args.request in
    let r = read_in c.in-Ok.checked in
    of-reported IsJust c.run_checked.result (g.S.Shelf.folder c.args.shelf.now) a r _ _ c.in-Ok.ensures.told c.run_checked.ensures.report
    (λ folder h. (c.reports_are_just.ensures a folder r h c.in-Ok.ensures.fine.names).0)

pub returns-in-Ok-clause-decided : goal.returns-in-Ok-clause-decided
returns-in-Ok-clause-decided g c =
    let a = asked_by c.args.request in
    let r = read_in c.in-Ok.checked in
    of-reported IsDecided c.run_checked.result (g.S.Shelf.folder c.args.shelf.now) a r _ _ c.in-Ok.ensures.told c.run_checked.ensures.report
    (λ folder h. (c.reports_are_just.ensures a folder r h c.in-Ok.ensures.fine.names).1)
