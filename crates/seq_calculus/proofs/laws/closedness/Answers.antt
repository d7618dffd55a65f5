use Rattle.seq_calculus.proofs.Renamed.{Der-closed}
use Rattle.seq_calculus.proofs.laws.closedness.Goals as goal

pub returns : goal.returns
returns c = Der-closed
