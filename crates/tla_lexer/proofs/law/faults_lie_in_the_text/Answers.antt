use Rattle.tla_lexer.proofs.Faults.{faults-lie}
use Rattle.tla_lexer.proofs.law.faults_lie_in_the_text.Goals as goal

pub returns : goal.returns
returns c = faults-lie
