use Rattle.proof_text.proofs.WholeFormats.{obligations_differ}
use Rattle.proof_text.proofs.laws.obligations_differ.Goals as goal

pub returns : goal.returns
returns c = obligations_differ
