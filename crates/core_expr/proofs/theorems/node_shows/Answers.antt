use Rattle.core_expr.proofs.Proved.{node_shows}
use Rattle.core_expr.proofs.theorems.node_shows.Goals as goal

pub returns : goal.returns
returns c = node_shows
