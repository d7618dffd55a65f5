use Rattle.operator_chain.proofs.FaultLaws.{first_place}
use Rattle.operator_chain.proofs.chain.first_fault.Goals as goal

pub returns : goal.returns
returns c = first_place
