use Rattle.std.proofs.Common.{◌≡◌, ◌-◌}
use Rattle.token_reader.specs.Lists.{gathered_from, put_last, ask}
use Rattle.layout_parser.specs.Reading.{nested, keys, begins_key, key_of}
use Rattle.layout_parser.proofs.grammar.Grammar.keys.Given as goal

abbrev pub invariant-loop-turn : goal.invariant-loop-turn
invariant-loop-turn g l = keys l.self.left (nested l.self.left) l.setting l.fn.cursor ≡ gathered_from (l._turn-end - l._turn) (ask (begins_key l.setting)) (key_of l.self.left (nested l.self.left) l.setting) put_last l.found l.cursor
