use Rattle.entry_positions.proofs.OpenLaws.{open_used}
use Rattle.entry_positions.proofs.laws.open_used.Goals as goal

pub returns : goal.returns
returns c = open_used
