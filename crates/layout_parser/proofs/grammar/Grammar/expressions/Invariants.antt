use Rattle.std.proofs.Common.{◌≡◌, ◌-◌}
use Rattle.token_reader.specs.declared.mark.Mark.TheVariants as m
use Rattle.token_reader.specs.Input.{eat}
use Rattle.token_reader.specs.Lists.{gathered_from, put_last}
use Rattle.layout_parser.specs.Reading.{nested, expressions, part}
use Rattle.layout_parser.proofs.grammar.Grammar.expressions.Given as goal

abbrev pub invariant-loop-turn : goal.invariant-loop-turn
invariant-loop-turn g l = expressions l.self.left (nested l.self.left) l.setting l.fn.found l.fn.cursor ≡ gathered_from (l._turn-end - l._turn) (eat l.setting m.Comma) (part l.self.left (nested l.self.left) l.setting) put_last l.found l.cursor
