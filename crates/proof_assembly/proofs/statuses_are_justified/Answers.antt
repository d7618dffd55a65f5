use Rattle.proof_assembly.proofs.Headline.{justified}
use Rattle.proof_assembly.proofs.statuses_are_justified.Goals as goal

pub returns : goal.returns
returns c = justified
