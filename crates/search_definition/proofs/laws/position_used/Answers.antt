use Rattle.search_definition.proofs.Positions.{position_used}
use Rattle.search_definition.proofs.laws.position_used.Goals as goal

pub returns : goal.returns
returns c = position_used
