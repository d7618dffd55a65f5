use Rattle.proof_contexts.proofs.Putting.{expansion_final}
use Rattle.proof_contexts.proofs.laws.expansion_is_final.Goals as goal

pub returns : goal.returns
returns c = expansion_final
