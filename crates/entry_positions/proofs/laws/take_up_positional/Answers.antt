use Rattle.entry_positions.proofs.TermLaws.{take_up_shrinks, take_up_steady}
use Rattle.entry_positions.proofs.laws.take_up_positional.Goals as goal

pub returns : goal.returns
returns c = (take_up_shrinks, take_up_steady)
