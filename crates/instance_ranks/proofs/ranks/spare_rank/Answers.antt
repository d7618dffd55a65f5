use Rattle.std.proofs.Common.{sym, subst}
use Rattle.std.specs.Prelude.{IfOk}
use Rattle.search_definition.specs.Instances.{spare_rule}
use Rattle.term_bank.proofs.InstLaws.{Extends-trans}
use Rattle.branch_state.specs.Parts.{shown}
use Rattle.tableau_search.specs.Entries.{branch_of}
use Rattle.tableau_search.specs.Found.{IsAnswer}
use Rattle.tableau_search.proofs.LiftLaws.{branch_kept}
use Rattle.instance_terms.specs.Fresh.{fresh_of}
use Rattle.instance_ranks.proofs.ranks.spare_rank.Goals as goal

pub returns-clause-answer : goal.returns-clause-answer
returns-clause-answer c =
    let ts = c.args.bank.now in
    let mid = c.first_spare.new.bank in
    let new = c.answer.new.bank in
    let es = (shown c.args.parts.now).now in
    let w = fresh_of c.args.w in
    let x = Extends-trans ts mid new c.first_spare.ensures.extends c.answer.ensures.extends in
    subst (λ b. IfOk c.answer.result (IsAnswer new es (spare_rule w b))) (sym (branch_kept ts new es x c.requires.known)) (c.answer.ensures.answer (spare_rule w (branch_of ts es)) c.in_ok-first.ensures.ok)
