use Rattle.entry_positions.proofs.OpenLaws.{open_start}
use Rattle.entry_positions.proofs.laws.open_start.Goals as goal

pub returns : goal.returns
returns c = open_start
