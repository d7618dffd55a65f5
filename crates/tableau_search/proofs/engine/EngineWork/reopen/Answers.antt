use Rattle.std.proofs.Common.{sym, subst}
use Rattle.branch_state.specs.Parts.{shown}
use Rattle.tableau_search.specs.Boards.{IsBoard}
use Rattle.tableau_search.proofs.BoardLaws.{reopens}
use Rattle.tableau_search.proofs.engine.EngineWork.reopen.Goals as goal

pub returns-clause-holds : goal.returns-clause-holds
returns-clause-holds g c =
    let e = c.args.self.now in
    let r = c.in_ok-take_up.ensures in
    let t = reopens (g.F.Memo.fresh e.finder) c.args.at c.args.number (g.F.Memo.trees e.finder) (shown e.parts) e.turns.items (shown c.take_up.new.parts) c.take_up.new.turns.items c.requires.holds.2 c.requires.within r.back in
    (r.holds, r.held, subst (λ xs. IsBoard xs (shown c.take_up.new.parts) c.take_up.new.turns.items) (sym r.trees) t.3, r.memo)
