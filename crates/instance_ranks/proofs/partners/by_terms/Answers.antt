use Rattle.std.proofs.Common.{length}
use Rattle.term_bank.specs.Banks.{tree_at}
use Rattle.term_bank.proofs.InstLaws.{Extends-trans}
use Rattle.branch_state.specs.Parts.{shown}
use Rattle.tableau_search.proofs.RankLaws.{known_more}
use Rattle.instance_terms.specs.Fresh.{fresh_of}
use Rattle.instance_ranks.specs.Seeking.{aim_of}
use Rattle.instance_ranks.specs.Partners.{subterm_at}
use Rattle.instance_ranks.proofs.KeepLaws.{below_kept, sought_kept}
use Rattle.instance_ranks.proofs.WalkLaws.{walk_miss, walk_hit, index_below, terms_next, subterm_stays}
use Rattle.instance_ranks.proofs.partners.by_terms.Goals as goal

pub at_subterm-requires-clause-known : goal.at_subterm-requires-clause-known
at_subterm-requires-clause-known c = known_more c.args.bank.now c.loop-i.bank (shown c.args.parts.now).now c.loop-i.invariant.extends c.requires.known

pub at_subterm-requires-clause-sought : goal.at_subterm-requires-clause-sought
at_subterm-requires-clause-sought c = sought_kept c.args.bank.now c.loop-i.bank c.args.s c.loop-i.invariant.extends c.requires.sought

pub at_subterm-requires-clause-side : goal.at_subterm-requires-clause-side
at_subterm-requires-clause-side c = below_kept c.args.bank.now c.loop-i.bank c.args.l c.loop-i.invariant.extends c.requires.side

pub at_subterm-requires-clause-within : goal.at_subterm-requires-clause-within
at_subterm-requires-clause-within c =
    let ts = c.args.bank.now in
    below_kept ts c.loop-i.bank _ c.loop-i.invariant.extends (index_below (length ts) c.args.terms.now c.loop-i.i _ c.requires.below c.loop-i-test.true)

pub loop-i-preserved : goal.loop-i-preserved
loop-i-preserved c =
    let ts = c.args.bank.now in
    let now = c.loop-i.bank in
    let mid = c.at_subterm.new.bank in
    let es = (shown c.args.parts.now).now in
    let w = fresh_of c.args.w in
    let x = c.loop-i.invariant.extends in
    record {
      extends = Extends-trans ts now mid x c.at_subterm.ensures.extends;
      distinct = c.at_subterm.ensures.distinct;
      rest = walk_miss mid c.in_ok-term.field-0 _ _ _ _ _ (terms_next (subterm_at w (aim_of ts es c.args.s) (tree_at ts c.args.l)) ts c.args.terms.now c.loop-i.i 0 c.loop-i-test.true) c.loop-i.invariant.rest
          (subterm_stays ts now es w c.args.s c.args.l _ x c.requires.known c.requires.sought c.requires.side (index_below (length ts) c.args.terms.now c.loop-i.i 0 c.requires.below c.loop-i-test.true)) c.in-None.is c.in_ok-term.ensures.ok;
    }

pub returns-in-Some-clause-ok : goal.returns-in-Some-clause-ok
returns-in-Some-clause-ok c =
    let ts = c.args.bank.now in
    let es = (shown c.args.parts.now).now in
    let w = fresh_of c.args.w in
    walk_hit c.at_subterm.new.bank c.in_ok-term.field-0 c.in-Some.term _ _ _ _ _ (terms_next (subterm_at w (aim_of ts es c.args.s) (tree_at ts c.args.l)) ts c.args.terms.now c.loop-i.i 0 c.loop-i-test.true) c.loop-i.invariant.rest
    (subterm_stays ts c.loop-i.bank es w c.args.s c.args.l _ c.loop-i.invariant.extends c.requires.known c.requires.sought c.requires.side (index_below (length ts) c.args.terms.now c.loop-i.i 0 c.requires.below c.loop-i-test.true)) c.in-Some.is c.in_ok-term.ensures.ok
