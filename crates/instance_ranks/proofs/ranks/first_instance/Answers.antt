use Rattle.std.proofs.Common.{refl, subst}
use Rattle.term_bank.proofs.InstLaws.{Extends-trans}
use Rattle.search_definition.specs.declared.rule.Rule.TheVariants as rules
use Rattle.search_definition.specs.Instances.{at_place}
use Rattle.branch_state.specs.Parts.{shown}
use Rattle.tableau_search.specs.Entries.{branch_of}
use Rattle.tableau_search.proofs.RankLaws.{known_more}
use Rattle.tableau_search.proofs.ClosedLaws.{closed_kept}
use Rattle.formula_rules.specs.Answers.{HasTerm, universal_of}
use Rattle.instance_terms.specs.Fresh.{fresh_of}
use Rattle.instance_ranks.specs.Lives.{live_at}
use Rattle.instance_ranks.proofs.KeepLaws.{body_kept}
use Rattle.instance_ranks.proofs.ClosedLaws.{found_closed}
use Rattle.instance_ranks.proofs.PlaceLaws.{live_among, made, unmade, has_or, none_or, places_of_next, found_stays}
use Rattle.instance_ranks.proofs.ranks.first_instance.Goals as goal

pub found_term-requires-clause-known : goal.found_term-requires-clause-known
found_term-requires-clause-known c = known_more c.args.bank.now c.loop-i.bank (shown c.args.parts.now).now c.loop-i.invariant.extends c.requires.known

pub found_term-requires-clause-closed : goal.found_term-requires-clause-closed
found_term-requires-clause-closed c = closed_kept c.args.bank.now c.loop-i.bank (shown c.args.parts.now).now c.loop-i.invariant.extends c.requires.known c.requires.closed

pub found_term-requires-clause-body : goal.found_term-requires-clause-body
found_term-requires-clause-body c =
    let ts = c.args.bank.now in
    body_kept ts c.loop-i.bank _ c.loop-i.invariant.extends (live_among ts (shown c.args.parts.now).now c.args.list.now c.loop-i.i _ c.requires.live c.loop-i-test.true).body

pub returns-in-Some-clause-ok : goal.returns-in-Some-clause-ok
returns-in-Some-clause-ok c =
    let ts = c.args.bank.now in
    let now = c.loop-i.bank in
    let mid = c.found_term.new.bank in
    let es = (shown c.args.parts.now).now in
    let w = fresh_of c.args.w in
    let g = c.loop-i.invariant.extends in
    let h = live_among ts es c.args.list.now c.loop-i.i _ c.requires.live c.loop-i-test.true in
    let n = subst (HasTerm mid c.in_ok-term.field-0) (found_stays ts now es w _ g c.requires.known h) c.in_ok-term.ensures.ok in
    has_or mid es rules.Instance _ _ _ _ _ (places_of_next (at_place (branch_of ts es) w) ts c.args.list.now c.loop-i.i _ c.loop-i-test.true) c.loop-i.invariant.rest
    (made ts mid es rules.Instance _ c.in-Some.term c.in_ok-term.field-0 _ (Extends-trans ts now mid g c.found_term.ensures.extends) h c.in-Some.is n (found_closed (branch_of ts es) w (universal_of ts _))) _ refl

pub loop-i-preserved : goal.loop-i-preserved
loop-i-preserved c =
    let ts = c.args.bank.now in
    let now = c.loop-i.bank in
    let mid = c.found_term.new.bank in
    let es = (shown c.args.parts.now).now in
    let w = fresh_of c.args.w in
    let g = c.loop-i.invariant.extends in
    let h = live_among ts es c.args.list.now c.loop-i.i _ c.requires.live c.loop-i-test.true in
    let n = subst (HasTerm mid c.in_ok-term.field-0) (found_stays ts now es w _ g c.requires.known h) c.in_ok-term.ensures.ok in
    record {
      extends = Extends-trans ts now mid g c.found_term.ensures.extends;
      distinct = c.found_term.ensures.distinct;
      rest = none_or _ _ _ _ (places_of_next (at_place (branch_of ts es) w) ts c.args.list.now c.loop-i.i _ c.loop-i-test.true) c.loop-i.invariant.rest (unmade ts mid es rules.Instance (live_at c.args.list.now c.loop-i.i) c.in_ok-term.field-0 _ c.in-None.is n);
    }
