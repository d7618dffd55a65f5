use Rattle.entry_positions.proofs.PassedLaws.{passed_added}
use Rattle.entry_positions.proofs.laws.passed_added.Goals as goal

pub returns : goal.returns
returns c = passed_added
