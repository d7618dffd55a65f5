use Rattle.seq_calculus.proofs.Examples.{flat_example}
use Rattle.seq_calculus.proofs.laws.flat_example.Goals as goal

pub returns : goal.returns
returns c = flat_example
