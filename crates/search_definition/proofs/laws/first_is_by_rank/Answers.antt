use Rattle.search_definition.proofs.Used.{first_is_by_rank}
use Rattle.search_definition.proofs.laws.first_is_by_rank.Goals as goal

pub returns : goal.returns
returns c = first_is_by_rank
