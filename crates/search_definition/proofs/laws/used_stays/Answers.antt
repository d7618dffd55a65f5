use Rattle.search_definition.proofs.Watching.{used_stays}
use Rattle.search_definition.proofs.laws.used_stays.Goals as goal

pub returns : goal.returns
returns c = used_stays
