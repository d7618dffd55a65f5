use Rattle.std.proofs.Common.{◌≡◌, ◌-◌}
use Rattle.token_reader.specs.Lists.{gathered_from, put_last, ask}
use Rattle.layout_parser.specs.Reading.{nested, items, sees_bullet, bulleted}
use Rattle.layout_parser.proofs.grammar.Grammar.items.Given as goal

abbrev pub invariant-loop-turn : goal.invariant-loop-turn
invariant-loop-turn g l = items l.self.left (nested l.self.left) l.setting l.mark l.fn.cursor ≡ gathered_from (l._turn-end - l._turn) (ask (sees_bullet l.setting l.mark)) (bulleted l.self.left (nested l.self.left) l.setting) put_last l.found l.cursor
