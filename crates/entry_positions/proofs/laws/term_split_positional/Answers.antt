use Rattle.entry_positions.proofs.TermLaws.{term_split_shrinks, term_split_steady}
use Rattle.entry_positions.proofs.laws.term_split_positional.Goals as goal

pub returns : goal.returns
returns c = (term_split_shrinks, term_split_steady)
