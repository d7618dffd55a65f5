use Rattle.core_expr.proofs.Proved.{made_shows}
use Rattle.core_expr.proofs.theorems.made_shows.Goals as goal

pub returns : goal.returns
returns c = made_shows
