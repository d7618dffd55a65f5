use Rattle.seq_calculus.proofs.Renamed.{Der-sub}
use Rattle.seq_calculus.proofs.laws.substitution.Goals as goal

pub returns : goal.returns
returns c = Der-sub
