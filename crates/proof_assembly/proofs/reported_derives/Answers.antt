use Rattle.proof_assembly.proofs.Headline.{headline}
use Rattle.proof_assembly.proofs.reported_derives.Goals as goal

pub returns : goal.returns
returns c = headline
