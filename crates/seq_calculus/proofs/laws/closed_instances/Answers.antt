use Rattle.seq_calculus.proofs.Closed.{schema_closed}
use Rattle.seq_calculus.proofs.laws.closed_instances.Goals as goal

pub returns : goal.returns
returns c = schema_closed
