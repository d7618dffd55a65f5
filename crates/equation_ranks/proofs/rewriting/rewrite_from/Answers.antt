use Rattle.std.proofs.Common.{◌<◌, ◌≤◌, length, arith, Some, add-one}
use Rattle.search_definition.specs.declared.rule.Rank.TheVariants as rank
use Rattle.search_definition.specs.Plain.{rewrite}
use Rattle.branch_state.specs.Parts.{shown}
use Rattle.tableau_search.proofs.ClosedLaws.{closed_kept}
use Rattle.tableau_search.proofs.RankLaws.{known_more}
use Rattle.tableau_search.specs.Growing.{extends_on}
use Rattle.equation_ranks.proofs.ReplaceLaws.{adds_closed, none_kept, none_here, none_before, oldest_nowhere}
use Rattle.equation_ranks.proofs.RewriteLaws.{entry_found, none_after, position_here, position_end}
use Rattle.equation_ranks.proofs.rewriting.rewrite_from.Goals as goal

pub returns-in-Some-clause-answer : goal.returns-in-Some-clause-answer
returns-in-Some-clause-answer c =
    let us = c.rewritten_at.new.bank in
    let es = (shown c.args.parts.now).now in
    let v = c.loop-i.invariant in
    let l : c.loop-i.i < length es = omega (arith, c.loop-i-test.true, c.length-i-end.ensures) in
    let n = none_kept c.loop-i.bank us es rewrite c.loop-i.i c.rewritten_at.ensures.extends v.known v.before in
    entry_found us es rewrite c.loop-i.i _ c.in-Some.found n l c.in_ok-found.ensures.answer c.in-Some.is

pub returns-in-Some-clause-closed : goal.returns-in-Some-clause-closed
returns-in-Some-clause-closed c =
    let us = c.rewritten_at.new.bank in
    let es = (shown c.args.parts.now).now in
    let v = c.loop-i.invariant in
    let x = c.rewritten_at.ensures.extends in
    let l : c.loop-i.i < length es = omega (arith, c.loop-i-test.true, c.length-i-end.ensures) in
    let n = none_kept c.loop-i.bank us es rewrite c.loop-i.i x v.known v.before in
    adds_closed (record { spare = 0; metas = 0 }) us es rank.Rewrite (Some c.in-Some.found) (closed_kept c.loop-i.bank us es x v.known v.closed) (entry_found us es rewrite c.loop-i.i _ c.in-Some.found n l c.in_ok-found.ensures.answer c.in-Some.is)

pub loop-i-preserved : goal.loop-i-preserved
loop-i-preserved c =
    let ts = c.loop-i.bank in
    let us = c.rewritten_at.new.bank in
    let es = (shown c.args.parts.now).now in
    let v = c.loop-i.invariant in
    let r = c.rewritten_at.ensures in
    let n = none_kept ts us es rewrite c.loop-i.i r.extends v.known v.before in
    record {
      extends = extends_on c.args.bank.now ts us v.extends r.extends;
      distinct = r.distinct;
      known = known_more ts us es r.extends v.known;
      closed = closed_kept ts us es r.extends v.known v.closed;
      before = none_before us es rewrite _ (none_after us es rewrite c.loop-i.i _ _ (add-one c.loop-i.i) (none_here us es rewrite c.loop-i.i n) c.in_ok-found.ensures.answer c.in-None.is);
    }

pub returns-clause-answer : goal.returns-clause-answer
returns-clause-answer c =
    let es = (shown c.args.parts.now).now in
    let l : length es ≤ c.loop-i.i = omega (arith, c.loop-i-test.false, c.length-i-end.ensures) in
    oldest_nowhere c.loop-i.bank es rewrite c.loop-i.i c.loop-i.invariant.before l

pub returns-in-Some-clause-position : goal.returns-in-Some-clause-position
returns-in-Some-clause-position c =
    let us = c.rewritten_at.new.bank in
    let es = (shown c.args.parts.now).now in
    let v = c.loop-i.invariant in
    let n = none_kept c.loop-i.bank us es rewrite c.loop-i.i c.rewritten_at.ensures.extends v.known v.before in
    position_here us es rewrite c.loop-i.i (length es) _ _ c.in-Some.found n c.in_ok-found.ensures.answer c.in-Some.is

pub returns-clause-position : goal.returns-clause-position
returns-clause-position c =
    let es = (shown c.args.parts.now).now in
    let l : length es ≤ c.loop-i.i = omega (arith, c.loop-i-test.false, c.length-i-end.ensures) in
    position_end c.loop-i.bank es rewrite c.loop-i.i c.loop-i.invariant.before l
