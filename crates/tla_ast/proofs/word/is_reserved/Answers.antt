use Rattle.tla_ast.specs.Word.{reserved}
use Rattle.tla_ast.proofs.word.is_reserved.Goals as goal

pub returns : goal.returns
unfolding reserved
returns c = c.is_among.ensures
