use Rattle.entry_positions.proofs.PassedLaws.{passed_used}
use Rattle.entry_positions.proofs.laws.passed_used.Goals as goal

pub returns : goal.returns
returns c = passed_used
