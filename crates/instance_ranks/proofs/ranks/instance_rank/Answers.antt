use Rattle.std.proofs.Common.{ap, sym, ◌∙◌, subst}
use Rattle.std.specs.Prelude.{IfOk}
use Rattle.search_definition.specs.declared.rule.Rule.TheVariants as rules
use Rattle.search_definition.specs.Terms.{first_some}
use Rattle.search_definition.specs.Instances.{at_place, instance_rule}
use Rattle.term_bank.proofs.InstLaws.{Extends-trans}
use Rattle.branch_state.specs.Parts.{shown}
use Rattle.tableau_search.specs.Entries.{branch_of}
use Rattle.tableau_search.specs.Found.{IsAnswer}
use Rattle.tableau_search.proofs.LiftLaws.{branch_kept}
use Rattle.instance_terms.specs.Fresh.{fresh_of}
use Rattle.instance_ranks.specs.Lives.{places_of, HasInstance}
use Rattle.instance_ranks.proofs.ranks.instance_rank.Goals as goal

pub returns-clause-answer : goal.returns-clause-answer
returns-clause-answer c =
    let ts = c.args.bank.now in
    let mid = c.first_instance.new.bank in
    let new = c.answer.new.bank in
    let es = (shown c.args.parts.now).now in
    let w = fresh_of c.args.w in
    let x = Extends-trans ts mid new c.first_instance.ensures.extends c.answer.ensures.extends in
    let e = ap (places_of ts) c.as_slice.ensures.value ∙ c.in_ok-list.ensures.ok in
    let h = subst (λ ps. HasInstance mid es rules.Instance (first_some (at_place (branch_of ts es) w) ps) c.in_ok-first.first) e c.in_ok-first.ensures.ok in
    subst (λ b. IfOk c.answer.result (IsAnswer new es (instance_rule w b))) (sym (branch_kept ts new es x c.requires.known)) (c.answer.ensures.answer (instance_rule w (branch_of ts es)) h)
