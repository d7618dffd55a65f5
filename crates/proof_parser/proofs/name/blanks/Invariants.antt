use Rattle.std.proofs.Common.{◌≡◌, ◌-◌, ◌+◌}
use Rattle.token_reader.specs.declared.mark.Mark.TheVariants as m
use Rattle.token_reader.specs.Input.{eat}
use Rattle.token_reader.specs.Lists.{gathered_from}
use Rattle.proof_parser.specs.Modules.{outside, blanks, blank}
use Rattle.proof_parser.proofs.name.blanks.Given as goal

abbrev pub invariant-loop-turn : goal.invariant-loop-turn
invariant-loop-turn l = blanks l.fn.cursor ≡ gathered_from (l.turn-end - l.turn) (eat outside m.Comma) blank (λ n _. n + 1) l.turn l.cursor
