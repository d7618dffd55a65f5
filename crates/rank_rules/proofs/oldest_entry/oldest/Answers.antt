use Rattle.std.proofs.Common.{◌<◌, ◌≤◌, ◌+◌, ◌∙◌, Some, None, [], length, subst, sym, append-nil, arith}
use Rattle.search_definition.specs.Rules.{at_live}
use Rattle.term_bank.specs.Banks.{tree_at}
use Rattle.term_bank.proofs.InstLaws.{Extends-trans}
use Rattle.branch_state.specs.Parts.{shown}
use Rattle.branch_state.specs.Shown.{placed_at}
use Rattle.formula_rules.specs.Answers.{HasAnswer}
use Rattle.rank_rules.specs.Ranked.{rule_of, branch_of, FitsAt}
use Rattle.rank_rules.proofs.Entries.{known_kept, closed_kept, passed_more, fits_here, fits_nowhere, position_kept, ranked}
use Rattle.rank_rules.proofs.oldest_entry.oldest.Goals as goal

pub loop-i-init : goal.loop-i-init
loop-i-init c = record {
  extends = ([], sym (append-nil c.args.bank.now));
  distinct = c.count-count.ensures.distinct;
  known = c.requires.known;
  closed = c.requires.closed;
  passed = c.requires.start;
}

pub loop-i-preserved : goal.loop-i-preserved
loop-i-preserved c =
    let es = (shown c.args.parts.now).now in
    let ts = c.loop-i.bank in
    let new = c.at_entry.new.bank in
    let rule = rule_of c.args.rank (branch_of ts es) in
    let l : c.loop-i.i < length es = omega (arith, c.length-i-end.ensures, c.loop-i-test.true) in
    let x = c.at_entry.ensures.extends in
    let h : HasAnswer new None (at_live rule (placed_at es c.loop-i.i).live (tree_at ts (placed_at es c.loop-i.i).formula)) = subst (λ o. HasAnswer new o (at_live rule (placed_at es c.loop-i.i).live (tree_at ts (placed_at es c.loop-i.i).formula))) c.in-None.is c.in_ok-given.ensures.ok in
    record {
      extends = Extends-trans c.args.bank.now ts new c.loop-i.invariant.extends x;
      distinct = c.at_entry.ensures.distinct;
      known = known_kept ts new es x c.loop-i.invariant.known;
      closed = closed_kept ts new es x c.loop-i.invariant.known c.loop-i.invariant.closed;
      passed = position_kept (rule_of c.args.rank) ts new es (c.loop-i.i + 1) x c.loop-i.invariant.known (passed_more rule ts new es c.loop-i.i l c.loop-i.invariant.passed h);
    }

pub returns-in-Some-clause-ok : goal.returns-in-Some-clause-ok
returns-in-Some-clause-ok c =
    let es = (shown c.args.parts.now).now in
    let ts = c.loop-i.bank in
    let new = c.at_entry.new.bank in
    let rule = rule_of c.args.rank (branch_of ts es) in
    let l : c.loop-i.i < length es = omega (arith, c.length-i-end.ensures, c.loop-i-test.true) in
    let h : HasAnswer new (Some c.in-Some.given) (at_live rule (placed_at es c.loop-i.i).live (tree_at ts (placed_at es c.loop-i.i).formula)) = subst (λ o. HasAnswer new o (at_live rule (placed_at es c.loop-i.i).live (tree_at ts (placed_at es c.loop-i.i).formula))) c.in-Some.is c.in_ok-given.ensures.ok in
    λ w. subst (λ r. FitsAt new es r (record { entry = c.loop-i.i; given = c.in-Some.given })) (sym (ranked c.args.rank w (branch_of new es)))
    (fits_here (rule_of c.args.rank) ts new es c.loop-i.i c.in-Some.given c.at_entry.ensures.extends c.loop-i.invariant.known l c.loop-i.invariant.passed h)

pub returns-in-Some-clause-passed : goal.returns-in-Some-clause-passed
returns-in-Some-clause-passed c = position_kept (rule_of c.args.rank) c.loop-i.bank c.at_entry.new.bank (shown c.args.parts.now).now c.loop-i.i c.at_entry.ensures.extends c.loop-i.invariant.known c.loop-i.invariant.passed

pub returns-clause-ok : goal.returns-clause-ok
returns-clause-ok c =
    let es = (shown c.args.parts.now).now in
    let l : length es ≤ c.loop-i.i = omega (arith, c.length-i-end.ensures, c.loop-i-test.false) in
    λ w. ranked c.args.rank w (branch_of c.loop-i.bank es) ∙ fits_nowhere (rule_of c.args.rank) c.loop-i.bank es c.loop-i.i l c.loop-i.invariant.passed
