use Rattle.entry_positions.proofs.PassedLaws.{passed_kept}
use Rattle.entry_positions.proofs.laws.passed_kept.Goals as goal

pub returns : goal.returns
returns c = passed_kept
