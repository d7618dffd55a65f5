use Rattle.std.proofs.Common.{◌<◌, Some, None, [], length, subst, sym, append-nil, arith}
use Rattle.search_definition.specs.Rules.{at_live}
use Rattle.term_bank.specs.Banks.{tree_at}
use Rattle.term_bank.proofs.InstLaws.{Extends-trans}
use Rattle.branch_state.specs.Parts.{shown}
use Rattle.branch_state.specs.Shown.{placed_at}
use Rattle.tableau_search.specs.Entries.{branch_of}
use Rattle.formula_rules.specs.Answers.{HasAnswer}
use Rattle.branch_values.proofs.Reasoning.{known_grown}
use Rattle.value_ranks.specs.Ranked.{rule_of}
use Rattle.value_ranks.proofs.Finding.{given_below, passed_more, fits_here, position_found, fits_nowhere, position_end}
use Rattle.value_ranks.proofs.oldest_entry.rank_from.Goals as goal

pub loop-i-init : goal.loop-i-init
loop-i-init c = record {
  extends = ([], sym (append-nil c.args.bank.now));
  distinct = c.count-count.ensures.distinct;
  known = c.requires.known;
  passed = c.requires.start;
}

pub loop-i-preserved : goal.loop-i-preserved
loop-i-preserved c =
    let es = (shown c.args.parts.now).now in
    let ts = c.loop-i.bank in
    let us = c.at_entry.new.bank in
    let x = c.at_entry.ensures.extends in
    let l : c.loop-i.i < length es = omega (arith, c.length-i-end.ensures, c.loop-i-test.true) in
    let h : HasAnswer us None (at_live (rule_of c.args.rank (branch_of ts es)) (placed_at es c.loop-i.i).live (tree_at ts (placed_at es c.loop-i.i).formula)) = subst (λ o. HasAnswer us o (at_live (rule_of c.args.rank (branch_of ts es)) (placed_at es c.loop-i.i).live (tree_at ts (placed_at es c.loop-i.i).formula))) c.in-None.is c.in_ok-given.ensures.ok in
    record {
      extends = Extends-trans c.args.bank.now ts us c.loop-i.invariant.extends x;
      distinct = c.at_entry.ensures.distinct;
      known = known_grown ts us es x c.loop-i.invariant.known;
      passed = passed_more c.args.rank ts us es c.loop-i.i x c.loop-i.invariant.known l c.loop-i.invariant.passed h;
    }

pub found_at-requires : goal.found_at-requires
found_at-requires c =
    let es = (shown c.args.parts.now).now in
    let ts = c.loop-i.bank in
    let us = c.at_entry.new.bank in
    let h : HasAnswer us (Some c.in-Some.given) (at_live (rule_of c.args.rank (branch_of ts es)) (placed_at es c.loop-i.i).live (tree_at ts (placed_at es c.loop-i.i).formula)) = subst (λ o. HasAnswer us o (at_live (rule_of c.args.rank (branch_of ts es)) (placed_at es c.loop-i.i).live (tree_at ts (placed_at es c.loop-i.i).formula))) c.in-Some.is c.in_ok-given.ensures.ok in
    given_below us (rule_of c.args.rank (branch_of ts es)) (placed_at es c.loop-i.i).live (tree_at ts (placed_at es c.loop-i.i).formula) c.in-Some.given h

pub returns-in-Some-clause-answer : goal.returns-in-Some-clause-answer
returns-in-Some-clause-answer c =
    let es = (shown c.args.parts.now).now in
    let ts = c.loop-i.bank in
    let us = c.at_entry.new.bank in
    let l : c.loop-i.i < length es = omega (arith, c.length-i-end.ensures, c.loop-i-test.true) in
    let h : HasAnswer us (Some c.in-Some.given) (at_live (rule_of c.args.rank (branch_of ts es)) (placed_at es c.loop-i.i).live (tree_at ts (placed_at es c.loop-i.i).formula)) = subst (λ o. HasAnswer us o (at_live (rule_of c.args.rank (branch_of ts es)) (placed_at es c.loop-i.i).live (tree_at ts (placed_at es c.loop-i.i).formula))) c.in-Some.is c.in_ok-given.ensures.ok in
    fits_here c.args.rank ts us es c.loop-i.i c.at_entry.ensures.extends c.loop-i.invariant.known l c.loop-i.invariant.passed c.in-Some.given h c.in_ok-found-in-Some.found c.in_ok-found-in-Some.ensures

pub returns-in-Some-clause-passed : goal.returns-in-Some-clause-passed
returns-in-Some-clause-passed c =
    let es = (shown c.args.parts.now).now in
    let ts = c.loop-i.bank in
    let us = c.at_entry.new.bank in
    let l : c.loop-i.i < length es = omega (arith, c.length-i-end.ensures, c.loop-i-test.true) in
    let h : HasAnswer us (Some c.in-Some.given) (at_live (rule_of c.args.rank (branch_of ts es)) (placed_at es c.loop-i.i).live (tree_at ts (placed_at es c.loop-i.i).formula)) = subst (λ o. HasAnswer us o (at_live (rule_of c.args.rank (branch_of ts es)) (placed_at es c.loop-i.i).live (tree_at ts (placed_at es c.loop-i.i).formula))) c.in-Some.is c.in_ok-given.ensures.ok in
    position_found c.args.rank ts us es c.loop-i.i c.at_entry.ensures.extends c.loop-i.invariant.known l c.loop-i.invariant.passed c.in-Some.given h c.in_ok-found-in-Some.found c.in_ok-found-in-Some.ensures

pub returns-clause-answer : goal.returns-clause-answer
returns-clause-answer c = fits_nowhere c.args.rank c.loop-i.bank (shown c.args.parts.now).now c.loop-i.i (omega (arith, c.length-i-end.ensures, c.loop-i-test.false)) c.loop-i.invariant.passed

pub returns-clause-passed : goal.returns-clause-passed
returns-clause-passed c = position_end c.args.rank c.loop-i.bank (shown c.args.parts.now).now c.loop-i.i (omega (arith, c.length-i-end.ensures, c.loop-i-test.false)) c.loop-i.invariant.passed
