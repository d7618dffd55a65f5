use Rattle.std.proofs.Common.{◌≡◌, ◌-◌}
use Rattle.token_reader.specs.declared.mark.Mark.TheVariants as m
use Rattle.token_reader.specs.Input.{sees}
use Rattle.token_reader.specs.Lists.{gathered_from, put_last, ask}
use Rattle.layout_parser.specs.Reading.{nested, definitions, definition}
use Rattle.layout_parser.proofs.grammar.Grammar.definitions.Given as goal

abbrev pub invariant-loop-turn : goal.invariant-loop-turn
invariant-loop-turn g l = definitions l.self.left (nested l.self.left) l.setting l.fn.cursor ≡ gathered_from (l._turn-end - l._turn) (ask (sees l.setting m.Name)) (definition l.self.left (nested l.self.left) l.setting) put_last l.found l.cursor
