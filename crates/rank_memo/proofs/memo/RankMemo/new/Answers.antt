use Rattle.std.proofs.Common.{sym, subst}
use Rattle.rank_memo.specs.Looked.{IsLooked}
use Rattle.entry_positions.specs.Places.{Places}
use Rattle.rank_memo.proofs.LookedLaws.{looked_start}
use Rattle.rank_memo.proofs.memo.RankMemo.new.Goals as goal

pub returns-clause-right : goal.returns-clause-right
returns-clause-right c es = subst (λ (p : Places). IsLooked c.args.bank es p.current) (sym c.in_ok-positions.ensures) (looked_start c.args.bank es)
