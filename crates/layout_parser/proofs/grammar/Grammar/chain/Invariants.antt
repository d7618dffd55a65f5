use Rattle.std.proofs.Common.{◌≡◌, ◌-◌}
use Rattle.layout_parser.specs.Reading.{nested, chain_from, behind}
use Rattle.layout_parser.proofs.grammar.Grammar.chain.Given as goal

abbrev pub invariant-loop-turn : goal.invariant-loop-turn
invariant-loop-turn g l =
    chain_from l.self.left (nested l.self.left) l.most l.setting l.fn.waits l.fn.cursor ≡ behind l.pieces.items (chain_from l.self.left (nested l.self.left) (l.most - l._turn) l.setting l.waits l.cursor)
