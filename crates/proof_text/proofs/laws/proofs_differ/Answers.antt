use Rattle.proof_text.proofs.WholeFormats.{proofs_differ}
use Rattle.proof_text.proofs.laws.proofs_differ.Goals as goal

pub returns : goal.returns
returns c = proofs_differ
