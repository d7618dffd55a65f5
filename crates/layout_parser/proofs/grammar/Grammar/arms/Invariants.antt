use Rattle.std.proofs.Common.{◌≡◌, ◌-◌}
use Rattle.token_reader.specs.Lists.{gathered_from}
use Rattle.layout_parser.specs.Reading.{nested, arms, further_arm, arm, with_arm}
use Rattle.layout_parser.proofs.grammar.Grammar.arms.Given as goal

abbrev pub invariant-loop-turn : goal.invariant-loop-turn
invariant-loop-turn g l = arms l.self.left (nested l.self.left) l.setting l.fn.cursor ≡ gathered_from (l._turn-end - l._turn) (further_arm l.setting) (arm l.self.left (nested l.self.left) l.setting) with_arm l.parts l.cursor
