use Rattle.tla_lexer.specs.Signs.{is_backslash_word, words}
use Rattle.tla_lexer.proofs.signs.is_backslash_word.Goals as goal

pub returns : goal.returns
unfolding is_backslash_word words
returns c = c.is_among.ensures
