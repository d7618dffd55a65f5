use Rattle.tla_lexer.proofs.Laid.{tokens-lie}
use Rattle.tla_lexer.proofs.law.tokens_lie_in_the_text.Goals as goal

pub returns : goal.returns
returns c = tokens-lie
