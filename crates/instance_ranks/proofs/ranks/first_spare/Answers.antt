use Rattle.std.proofs.Common.{◌<◌, length, arith, subst}
use Rattle.term_bank.proofs.InstLaws.{Extends-trans}
use Rattle.search_definition.specs.declared.rule.Rule.TheVariants as rules
use Rattle.search_definition.specs.Instances.{spare_at}
use Rattle.branch_state.specs.Parts.{shown}
use Rattle.tableau_search.specs.Entries.{branch_of}
use Rattle.tableau_search.proofs.RankLaws.{known_more}
use Rattle.tableau_search.proofs.ClosedLaws.{closed_kept}
use Rattle.instance_terms.specs.Fresh.{fresh_of}
use Rattle.instance_ranks.specs.Lives.{HasInstance}
use Rattle.instance_ranks.proofs.PlaceLaws.{has_or, none_or, instance_none, places_some, spare_stays}
use Rattle.instance_ranks.proofs.ranks.first_spare.Goals as goal

pub spare_at-requires-clause-known : goal.spare_at-requires-clause-known
spare_at-requires-clause-known c = known_more c.args.bank.now c.loop-i.bank (shown c.args.parts.now).now c.loop-i.invariant.extends c.requires.known

pub spare_at-requires-clause-closed : goal.spare_at-requires-clause-closed
spare_at-requires-clause-closed c = closed_kept c.args.bank.now c.loop-i.bank (shown c.args.parts.now).now c.loop-i.invariant.extends c.requires.known c.requires.closed

pub loop-i-preserved : goal.loop-i-preserved
loop-i-preserved c =
    let ts = c.args.bank.now in
    let now = c.loop-i.bank in
    let mid = c.spare_at.new.bank in
    let es = (shown c.args.parts.now).now in
    let w = fresh_of c.args.w in
    let g = c.loop-i.invariant.extends in
    let l : c.loop-i.i < length es = omega (arith, c.length-i-end.ensures, c.loop-i-test.true) in
    let n = subst (λ o. HasInstance mid es rules.Spare o c.in_ok-x.field-0) (spare_stays ts now es w c.loop-i.i g c.requires.known l) c.in_ok-x.ensures.ok in
    record {
      extends = Extends-trans ts now mid g c.spare_at.ensures.extends;
      distinct = c.spare_at.ensures.distinct;
      rest = none_or _ _ _ _ (places_some (spare_at (branch_of ts es) w) ts es c.loop-i.i l) c.loop-i.invariant.rest (instance_none mid es rules.Spare _ c.in_ok-x.field-0 n c.in-None.is);
    }

pub returns-in-Some-clause-ok : goal.returns-in-Some-clause-ok
returns-in-Some-clause-ok c =
    let ts = c.args.bank.now in
    let now = c.loop-i.bank in
    let mid = c.spare_at.new.bank in
    let es = (shown c.args.parts.now).now in
    let w = fresh_of c.args.w in
    let g = c.loop-i.invariant.extends in
    let l : c.loop-i.i < length es = omega (arith, c.length-i-end.ensures, c.loop-i-test.true) in
    let n = subst (λ o. HasInstance mid es rules.Spare o c.in_ok-x.field-0) (spare_stays ts now es w c.loop-i.i g c.requires.known l) c.in_ok-x.ensures.ok in
    has_or mid es rules.Spare _ _ _ _ c.in_ok-x.field-0 (places_some (spare_at (branch_of ts es) w) ts es c.loop-i.i l) c.loop-i.invariant.rest n c.in-Some.x c.in-Some.is
