use Rattle.std.proofs.Common.{◌≡◌, ◌-◌}
use Rattle.token_reader.specs.declared.mark.Mark.TheVariants as m
use Rattle.token_reader.specs.Input.{eat}
use Rattle.token_reader.specs.Lists.{gathered_from}
use Rattle.layout_parser.specs.Reading.{nested, updates, update, with_update}
use Rattle.layout_parser.proofs.grammar.Grammar.updates.Given as goal

abbrev pub invariant-loop-turn : goal.invariant-loop-turn
invariant-loop-turn g l = updates l.self.left (nested l.self.left) l.setting l.fn.function l.fn.cursor ≡ gathered_from (l._turn-end - l._turn) (eat l.setting m.Comma) (update l.self.left (nested l.self.left) l.setting) with_update l.updates l.cursor
