use Rattle.seq_calculus.proofs.Renamed.{Der-weak}
use Rattle.seq_calculus.proofs.laws.weakening.Goals as goal

pub returns : goal.returns
returns c = Der-weak
