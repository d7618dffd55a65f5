use Rattle.std.proofs.Common.{◌<◌, length, arith}
use Rattle.branch_state.specs.Parts.{shown}
use Rattle.tableau_search.proofs.RankLaws.{known_more}
use Rattle.tableau_search.specs.Growing.{extends_on}
use Rattle.equation_ranks.proofs.ClosingLaws.{open_kept, entry_open, entry_closes}
use Rattle.equation_ranks.proofs.closing.close_from.Goals as goal

pub returns-in-Some-clause-closing : goal.returns-in-Some-clause-closing
returns-in-Some-clause-closing c =
    let us = c.closes_at.new.bank in
    let es = (shown c.args.parts.now).now in
    let v = c.loop-i.invariant in
    let l : c.loop-i.i < length es = omega (arith, c.loop-i-test.true, c.length-i-end.ensures) in
    let h = open_kept c.loop-i.bank us es c.loop-i.i c.closes_at.ensures.extends v.known v.unclosed in
    entry_closes us es c.loop-i.i c.in-Some.closing _ l h c.in_ok-closing.ensures.ok c.in-Some.is

pub loop-i-preserved : goal.loop-i-preserved
loop-i-preserved c =
    let ts = c.loop-i.bank in
    let us = c.closes_at.new.bank in
    let es = (shown c.args.parts.now).now in
    let v = c.loop-i.invariant in
    let r = c.closes_at.ensures in
    let l : c.loop-i.i < length es = omega (arith, c.loop-i-test.true, c.length-i-end.ensures) in
    let h = open_kept ts us es c.loop-i.i r.extends v.known v.unclosed in
    record {
      extends = extends_on c.args.bank.now ts us v.extends r.extends;
      distinct = r.distinct;
      known = known_more ts us es r.extends v.known;
      unclosed = entry_open us es c.loop-i.i _ l h c.in_ok-closing.ensures.ok c.in-None.is;
    }
