use Rattle.std.proofs.Common.{◌≡◌, ◌-◌}
use Rattle.token_reader.specs.declared.mark.Mark.TheVariants as m
use Rattle.token_reader.specs.Input.{sees}
use Rattle.token_reader.specs.Lists.{gathered_from, put_last, ask}
use Rattle.proof_parser.specs.Modules.{outside, definitions, definition}
use Rattle.proof_parser.proofs.clause.Clauses.definitions.Given as goal

abbrev pub invariant-loop-turn : goal.invariant-loop-turn
invariant-loop-turn l = definitions l.self.nestings l.fn.cursor ≡ gathered_from (l._turn-end - l._turn) (ask (sees outside m.Name)) (definition l.self.nestings) put_last l.found l.cursor
