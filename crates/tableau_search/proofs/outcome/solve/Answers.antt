use Rattle.std.proofs.Common.{ℕ, ◌<◌, List, length, subst}
use Rattle.branch_state.specs.declared.parts.New.{New}
use Rattle.branch_state.specs.Shown.{Placed}
use Rattle.seq_calculus.specs.Calculus.{IsClosed}
use Rattle.search_definition.specs.Search.{run, moves, start, search, steps, fresh}
use Rattle.search_trace.specs.Traces.{moves_of}
use Rattle.search_loop.specs.Turns.{Ends, StepsAre}
use Rattle.branch_state.specs.Parts.{shown}
use Rattle.tableau_search.specs.Entries.{tracked, new_tree, AreKnown}
use Rattle.tableau_search.proofs.MemoLaws.{memo_start}
use Rattle.tableau_search.proofs.BoardLaws.{board_start, state_start, ended, items_under}
use Rattle.tableau_search.proofs.outcome.solve.Goals as goal

pub search-requires-clause-holds : goal.search-requires-clause-holds
search-requires-clause-holds g c =
    let f = c.args.finder in
    let ts = g.F.Memo.trees f in
    let s = shown c.in_ok-parts.parts in
    let ms = c.args.formulas.now in
    let q = c.requires in
    let added = λ (es : List Placed) (ls : List ℕ) (n : New) (a : AreKnown (length ts) es) (l : n.formula < length ts) (h : IsClosed (new_tree ts n)) (x : g.F.Memo.right f es). g.met.F.Memo.added f es ls n q.holds q.distinct a l h x in (
      q.holds,
      c.in_ok-parts.ensures.held,
      board_start ts s c.new.result.items ms q.distinct q.known q.closed c.in_ok-parts.ensures.shown c.new.ensures.items,
      memo_start (g.F.Memo.right f) (g.F.Memo.saved f) (g.F.Memo.count f) ts s ms added q.known q.closed q.right q.count c.in_ok-parts.ensures.shown,
    )

pub returns-clause-ends : goal.returns-clause-ends
unfolding search
returns-clause-ends g c facts aim e1 e2 =
    let w = g.F.Memo.fresh c.args.finder in
    let ts = g.F.Memo.trees c.args.finder in
    let us = g.F.Memo.trees c.search.new.work.finder in
    let n = c.args.limit in
    let e = c.in_ok-ending.ending in
    let s = shown c.in_ok-parts.parts in
    let es = (shown c.search.new.work.parts).now in
    let p = state_start w ts s c.new.result.items c.args.formulas.now facts aim c.requires.distinct c.requires.known c.in_ok-parts.ensures.shown e2 in
    let h = subst (λ os. Ends (tracked us es) e (run w n 0 os)) p c.in_ok-ending.ensures.ends in
    let k = subst (λ v. Ends (tracked us es) e (run v n 0 (start facts aim))) e1 h in
    ended us es c.in_ok-branch.branch.items e (run (fresh facts aim) n 0 (start facts aim)) c.in_ok-branch.ensures k

pub returns-clause-steps : goal.returns-clause-steps
unfolding steps
returns-clause-steps g c facts aim e1 e2 =
    let w = g.F.Memo.fresh c.args.finder in
    let ts = g.F.Memo.trees c.args.finder in
    let us = g.F.Memo.trees c.search.new.work.finder in
    let n = c.args.limit in
    let e = c.in_ok-ending.ending in
    let s = shown c.in_ok-parts.parts in
    let new = moves_of us c.search.new.work.turns.items in
    let old = moves_of ts c.new.result.items in
    let p = state_start w ts s c.new.result.items c.args.formulas.now facts aim c.requires.distinct c.requires.known c.in_ok-parts.ensures.shown e2 in
    let h = subst (λ os. StepsAre e (moves w n 0 os) old new) p c.in_ok-ending.ensures.steps in
    let k = subst (λ v. StepsAre e (moves v n 0 (start facts aim)) old new) e1 h in
    subst (λ xs. StepsAre e (moves (fresh facts aim) n 0 (start facts aim)) (moves_of ts xs) new) c.new.ensures.items k

pub returns-clause-known : goal.returns-clause-known
returns-clause-known g c =
    items_under (length (g.F.Memo.trees c.search.new.work.finder)) (shown c.search.new.work.parts).now c.in_ok-branch.branch.items c.in_ok-branch.ensures c.in_ok-ending.ensures.holds.2.known
