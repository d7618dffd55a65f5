use Rattle.token_reader.specs.Marks.{signs}
use Rattle.token_reader.proofs.mark.sign_mark.Goals as goal

pub returns : goal.returns
unfolding signs
returns c = c.mark_in.ensures
