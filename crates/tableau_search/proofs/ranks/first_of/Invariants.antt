use Rattle.std.proofs.Common.{◌≡◌, None, length, drop}
use Rattle.search_definition.specs.Branches.{closing}
use Rattle.tableau_search.specs.Memos.{Stays}
use Rattle.term_bank.specs.Banks.{IsDistinct, Extends}
use Rattle.search_definition.specs.Terms.{first_some}
use Rattle.search_definition.specs.Search.{by_rank}
use Rattle.branch_state.specs.Parts.{shown}
use Rattle.tableau_search.specs.Entries.{AreKnown, AreClosed, branch_of}
use Rattle.tableau_search.proofs.ranks.first_of.Given as goal

abbrev pub invariant-loop-rank : goal.invariant-loop-rank
invariant-loop-rank g l =
    record {
      holds : g.R.Memo.holds l.ranks;
      extends : Extends (g.R.Memo.trees l.fn.ranks) (g.R.Memo.trees l.ranks);
      distinct : IsDistinct (g.R.Memo.trees l.ranks);
      fresh : g.R.Memo.fresh l.ranks ≡ g.R.Memo.fresh l.fn.ranks;
      right : g.R.Memo.right l.ranks (shown l.parts).now;
      count : g.R.Memo.count l.ranks ≡ g.R.Memo.count l.fn.ranks;
      saved : Stays (length (g.R.Memo.trees l.fn.ranks)) (g.R.Memo.count l.fn.ranks) (g.R.Memo.saved l.fn.ranks) (g.R.Memo.saved l.ranks);
      shut : closing (branch_of (g.R.Memo.trees l.ranks) (shown l.parts).now) ≡ None;
      closed : AreClosed (g.R.Memo.trees l.ranks) (shown l.parts).now;
      known : AreKnown (length (g.R.Memo.trees l.ranks)) (shown l.parts).now;
      same : first_some (by_rank (g.R.Memo.fresh l.fn.ranks) (branch_of (g.R.Memo.trees l.ranks) (shown l.parts).now)) l.order ≡ first_some (by_rank (g.R.Memo.fresh l.fn.ranks) (branch_of (g.R.Memo.trees l.ranks) (shown l.parts).now)) (drop l.rank-index l.order);
    }
