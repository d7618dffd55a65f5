use Rattle.search_definition.proofs.Watching.{value_stays}
use Rattle.search_definition.proofs.laws.value_stays.Goals as goal

pub returns : goal.returns
returns c = value_stays
