use Rattle.branch_state.specs.Parts.{shown}
use Rattle.tableau_search.proofs.ClosedLaws.{closed_kept}
use Rattle.tableau_search.proofs.MemoLaws.{stays_on}
use Rattle.tableau_search.proofs.RankLaws.{known_more, decided_found, decided_none, open_branch}
use Rattle.tableau_search.proofs.ranks.decide.Goals as goal

pub first_of-requires-clause-known : goal.first_of-requires-clause-known
first_of-requires-clause-known g c =
    known_more (g.R.Memo.trees c.args.ranks.now) (g.R.Memo.trees c.close.new.self) (shown c.args.parts.now).now c.in_ok-closing.ensures.extends c.requires.known

pub returns-in-Some-2-clause-decided : goal.returns-in-Some-2-clause-decided
returns-in-Some-2-clause-decided g c =
    let w = g.R.Memo.fresh c.close.new.self in
    let w2 = g.R.Memo.fresh c.args.ranks.now in
    let ts = g.R.Memo.trees c.close.new.self in
    let us = g.R.Memo.trees c.first_of.new.ranks in
    let es = (shown c.args.parts.now).now in
    let q = c.in_ok-closing.ensures in
    let r = c.in_ok-found-in-None.ensures in
    let a = known_more (g.R.Memo.trees c.args.ranks.now) ts es q.extends c.requires.known in
    let o = open_branch ts es _ q.closing c.in-None.is in
    decided_found w w2 ts us es _ c.in-Some-2.found q.fresh r.extends a o r.answer c.in-Some-2.is

pub returns-in-None-2-clause-decided : goal.returns-in-None-2-clause-decided
returns-in-None-2-clause-decided g c =
    let w = g.R.Memo.fresh c.close.new.self in
    let w2 = g.R.Memo.fresh c.args.ranks.now in
    let ts = g.R.Memo.trees c.close.new.self in
    let us = g.R.Memo.trees c.first_of.new.ranks in
    let es = (shown c.args.parts.now).now in
    let q = c.in_ok-closing.ensures in
    let r = c.in_ok-found-in-None.ensures in
    let a = known_more (g.R.Memo.trees c.args.ranks.now) ts es q.extends c.requires.known in
    let o = open_branch ts es _ q.closing c.in-None.is in
    decided_none w w2 ts us es _ q.fresh r.extends a o r.answer c.in-None-2.is

pub returns-in-Some-2-clause-saved : goal.returns-in-Some-2-clause-saved
returns-in-Some-2-clause-saved g c =
    let q = c.in_ok-closing.ensures in
    let r = c.in_ok-found-in-None.ensures in
    stays_on (g.R.Memo.trees c.args.ranks.now) (g.R.Memo.trees c.close.new.self) (g.R.Memo.count c.args.ranks.now) (g.R.Memo.count c.close.new.self) (g.R.Memo.saved c.args.ranks.now) (g.R.Memo.saved c.close.new.self) (g.R.Memo.saved c.first_of.new.ranks) q.extends q.count q.saved r.saved

pub returns-in-None-2-clause-saved : goal.returns-in-None-2-clause-saved
returns-in-None-2-clause-saved g c =
    let q = c.in_ok-closing.ensures in
    let r = c.in_ok-found-in-None.ensures in
    stays_on (g.R.Memo.trees c.args.ranks.now) (g.R.Memo.trees c.close.new.self) (g.R.Memo.count c.args.ranks.now) (g.R.Memo.count c.close.new.self) (g.R.Memo.saved c.args.ranks.now) (g.R.Memo.saved c.close.new.self) (g.R.Memo.saved c.first_of.new.ranks) q.extends q.count q.saved r.saved

pub first_of-requires-clause-closed : goal.first_of-requires-clause-closed
first_of-requires-clause-closed g c =
    closed_kept (g.R.Memo.trees c.args.ranks.now) (g.R.Memo.trees c.close.new.self) (shown c.args.parts.now).now c.in_ok-closing.ensures.extends c.requires.known c.requires.closed
