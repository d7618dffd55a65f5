use Rattle.proof_parser.proofs.Keeping.{stand-in}
use Rattle.proof_parser.proofs.laws.faults_stand_in_the_list.Goals as goal

pub returns : goal.returns
returns c = stand-in
