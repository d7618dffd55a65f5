use Rattle.token_reader.specs.Marks.{words}
use Rattle.token_reader.proofs.mark.word_mark.Goals as goal

pub returns : goal.returns
unfolding words
returns c = c.mark_in.ensures
