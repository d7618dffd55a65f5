use Rattle.std.proofs.Common.{◌≡◌, ◌-◌}
use Rattle.token_reader.specs.declared.mark.Mark.TheVariants as m
use Rattle.token_reader.specs.Input.{eat}
use Rattle.token_reader.specs.Lists.{gathered_from}
use Rattle.layout_parser.specs.Reading.{nested, fields, field_of, with_field}
use Rattle.layout_parser.proofs.grammar.Grammar.fields.Given as goal

abbrev pub invariant-loop-turn : goal.invariant-loop-turn
invariant-loop-turn g l = fields l.self.left (nested l.self.left) l.setting l.mark l.fn.cursor ≡ gathered_from (l._turn-end - l._turn) (eat l.setting m.Comma) (field_of l.self.left (nested l.self.left) l.setting l.mark) with_field l.fields l.cursor
