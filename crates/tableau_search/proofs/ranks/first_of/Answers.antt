use Rattle.std.proofs.Common.{ap, ◌∙◌}
use Rattle.branch_state.specs.Parts.{shown}
use Rattle.tableau_search.specs.Entries.{branch_of}
use Rattle.search_definition.specs.Branches.{closing}
use Rattle.tableau_search.proofs.LiftLaws.{branch_kept}
use Rattle.tableau_search.proofs.ClosedLaws.{closed_kept}
use Rattle.tableau_search.proofs.MemoLaws.{stays_on}
use Rattle.tableau_search.specs.Growing.{extends_on}
use Rattle.tableau_search.proofs.RankLaws.{answer_none, answer_some, rank_none, rank_some, known_more}
use Rattle.tableau_search.proofs.ranks.first_of.Goals as goal

pub loop-rank-preserved : goal.loop-rank-preserved
loop-rank-preserved g c =
    let ts = g.R.Memo.trees c.loop-rank.ranks in
    let us = g.R.Memo.trees c.rank.new.self in
    let es = (shown c.args.parts.now).now in
    let v = c.loop-rank.invariant in
    let r = c.in_ok-found.ensures in
    let e = answer_none us es _ _ r.answer c.in-None.is in
    record {
      holds = r.holds;
      extends = extends_on (g.R.Memo.trees c.args.ranks.now) ts us v.extends r.extends;
      distinct = r.distinct;
      fresh = r.fresh ∙ v.fresh;
      right = r.right;
      count = r.count ∙ v.count;
      saved = stays_on (g.R.Memo.trees c.args.ranks.now) ts (g.R.Memo.count c.args.ranks.now) (g.R.Memo.count c.loop-rank.ranks) (g.R.Memo.saved c.args.ranks.now) (g.R.Memo.saved c.loop-rank.ranks) (g.R.Memo.saved c.rank.new.self) v.extends v.count v.saved r.saved;
      shut = ap closing (branch_kept ts us es r.extends v.known) ∙ v.shut;
      closed = closed_kept ts us es r.extends v.known v.closed;
      known = known_more ts us es r.extends v.known;
      same = rank_none (g.R.Memo.fresh c.loop-rank.ranks) (g.R.Memo.fresh c.args.ranks.now) (branch_of us es) (branch_of ts es) c.args.order.now c.loop-rank.rank-index _ c.loop-rank-test.true v.fresh (branch_kept ts us es r.extends v.known) e v.same;
    }

pub returns-in-Some-clause-answer : goal.returns-in-Some-clause-answer
returns-in-Some-clause-answer g c =
    let ts = g.R.Memo.trees c.loop-rank.ranks in
    let us = g.R.Memo.trees c.rank.new.self in
    let es = (shown c.args.parts.now).now in
    let v = c.loop-rank.invariant in
    let r = c.in_ok-found.ensures in
    let e = answer_some us es _ _ c.in-Some.found r.answer c.in-Some.is in
    rank_some (g.R.Memo.fresh c.loop-rank.ranks) (g.R.Memo.fresh c.args.ranks.now) (branch_of us es) (branch_of ts es) c.args.order.now c.loop-rank.rank-index _ c.loop-rank-test.true v.fresh (branch_kept ts us es r.extends v.known) v.same us es c.in-Some.found e

pub returns-in-Some-clause-saved : goal.returns-in-Some-clause-saved
returns-in-Some-clause-saved g c =
    let v = c.loop-rank.invariant in
    let r = c.in_ok-found.ensures in
    stays_on (g.R.Memo.trees c.args.ranks.now) (g.R.Memo.trees c.loop-rank.ranks) (g.R.Memo.count c.args.ranks.now) (g.R.Memo.count c.loop-rank.ranks) (g.R.Memo.saved c.args.ranks.now) (g.R.Memo.saved c.loop-rank.ranks) (g.R.Memo.saved c.rank.new.self) v.extends v.count v.saved r.saved
