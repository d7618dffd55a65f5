use Rattle.std.proofs.Common.{◌<◌, length, arith}
use Rattle.term_bank.proofs.InstLaws.{Extends-trans}
use Rattle.branch_state.specs.Parts.{shown}
use Rattle.tableau_search.proofs.RankLaws.{known_more}
use Rattle.tableau_search.proofs.ClosedLaws.{closed_kept}
use Rattle.instance_terms.specs.Fresh.{fresh_of}
use Rattle.instance_ranks.specs.Seeking.{aim_of}
use Rattle.instance_ranks.specs.Partners.{partner_at}
use Rattle.instance_ranks.proofs.WalkLaws.{walk_miss, walk_hit, entries_next, entry_stays}
use Rattle.instance_ranks.proofs.entries.by_entries.Goals as goal

pub at_entry-requires-clause-known : goal.at_entry-requires-clause-known
at_entry-requires-clause-known c = known_more c.args.bank.now c.loop-i.bank (shown c.args.parts.now).now c.loop-i.invariant.extends c.requires.known

pub at_entry-requires-clause-closed : goal.at_entry-requires-clause-closed
at_entry-requires-clause-closed c = closed_kept c.args.bank.now c.loop-i.bank (shown c.args.parts.now).now c.loop-i.invariant.extends c.requires.known c.requires.closed

pub loop-i-preserved : goal.loop-i-preserved
loop-i-preserved c =
    let ts = c.args.bank.now in
    let now = c.loop-i.bank in
    let mid = c.at_entry.new.bank in
    let es = (shown c.args.parts.now).now in
    let w = fresh_of c.args.w in
    let x = c.loop-i.invariant.extends in
    let l : c.loop-i.i < length es = omega (arith, c.length-i-end.ensures, c.loop-i-test.true) in
    record {
      extends = Extends-trans ts now mid x c.at_entry.ensures.extends;
      distinct = c.at_entry.ensures.distinct;
      rest = walk_miss mid c.in_ok-term.field-0 _ _ _ _ _ (entries_next (partner_at ts w c.args.kind (aim_of ts es c.args.s)) ts es c.loop-i.i l) c.loop-i.invariant.rest
          (entry_stays ts now es w c.args.s c.args.kind c.loop-i.i x c.requires.known c.requires.sought c.requires.kind l) c.in-None.is c.in_ok-term.ensures.ok;
    }

pub returns-in-Some-clause-ok : goal.returns-in-Some-clause-ok
returns-in-Some-clause-ok c =
    let ts = c.args.bank.now in
    let es = (shown c.args.parts.now).now in
    let w = fresh_of c.args.w in
    let l : c.loop-i.i < length es = omega (arith, c.length-i-end.ensures, c.loop-i-test.true) in
    walk_hit c.at_entry.new.bank c.in_ok-term.field-0 c.in-Some.term _ _ _ _ _ (entries_next (partner_at ts w c.args.kind (aim_of ts es c.args.s)) ts es c.loop-i.i l) c.loop-i.invariant.rest
    (entry_stays ts c.loop-i.bank es w c.args.s c.args.kind c.loop-i.i c.loop-i.invariant.extends c.requires.known c.requires.sought c.requires.kind l) c.in-Some.is c.in_ok-term.ensures.ok
