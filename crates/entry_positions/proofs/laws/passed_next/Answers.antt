use Rattle.entry_positions.proofs.PassedLaws.{passed_next}
use Rattle.entry_positions.proofs.laws.passed_next.Goals as goal

pub returns : goal.returns
returns c = passed_next
