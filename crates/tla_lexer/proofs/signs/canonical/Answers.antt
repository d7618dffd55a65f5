use Rattle.tla_lexer.specs.Signs.{canonical, spellings}
use Rattle.tla_lexer.proofs.signs.canonical.Goals as goal

pub returns : goal.returns
unfolding canonical spellings
returns c = c.canonical_in.ensures
