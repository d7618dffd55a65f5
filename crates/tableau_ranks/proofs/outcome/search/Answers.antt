use Rattle.std.proofs.Common.{[]}
use Rattle.tableau_ranks.proofs.outcome.search.Goals as goal

pub solve-requires-clause-right : goal.solve-requires-clause-right
solve-requires-clause-right c = c.in_ok-ranks.ensures.right []
