use Rattle.std.proofs.Common.{length}
use Rattle.branch_state.specs.Parts.{shown}
use Rattle.tableau_search.proofs.MemoLaws.{memo_back}
use Rattle.tableau_search.proofs.engine.take_up.Goals as goal

pub returns-clause-memo : goal.returns-clause-memo
returns-clause-memo g c =
    let old = c.args.finder.now in
    let new = c.take_up.new.self in
    let s = shown c.args.parts.now in
    let r = c.in_ok-take_up.ensures in
    let e = c.in_ok-reopen.ensures.ok in
    memo_back (g.F.Memo.right old) (g.F.Memo.right new) (g.F.Memo.saved old) (g.F.Memo.saved new) (g.F.Memo.count old) (g.F.Memo.count new) (length (g.F.Memo.trees old)) c.args.at e.0 s (shown c.reopen.new.parts) c.requires.board.waits c.requires.within c.requires.memo e.1 r.count r.right r.saved
