use Rattle.std.proofs.Common.{drop}
use Rattle.std.specs.Char.{is_ascii_digit}
use Rattle.tla_lexer.proofs.Runs.{all-prefix}
use Rattle.tla_lexer.proofs.piece.step.Goals as goal

pub number_value-requires : goal.number_value-requires
number_value-requires c = rw (c.digit_len-digits.ensures.value, c.behind-3.ensures, c.behind.ensures) (all-prefix is_ascii_digit (drop 1 c.args.z.now))
