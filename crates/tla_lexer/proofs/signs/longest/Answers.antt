use Rattle.tla_lexer.specs.Signs.{longest, signs}
use Rattle.tla_lexer.proofs.signs.longest.Goals as goal

pub returns-clause-value : goal.returns-clause-value
unfolding longest signs
returns-clause-value c = c.longest_of.ensures.value
