use Rattle.std.proofs.Common.{◌≡◌, ◌-◌}
use Rattle.token_reader.specs.declared.mark.Mark.TheVariants as m
use Rattle.token_reader.specs.Input.{eat}
use Rattle.token_reader.specs.Lists.{gathered_from, put_last}
use Rattle.proof_parser.specs.Modules.{outside, facts, fact_of}
use Rattle.proof_parser.proofs.clause.Clauses.facts.Given as goal

abbrev pub invariant-loop-turn : goal.invariant-loop-turn
invariant-loop-turn l = facts l.self.nestings l.hides l.fn.cursor ≡ gathered_from (l._turn-end - l._turn) (eat outside m.Comma) (fact_of l.self.nestings l.hides) put_last l.found l.cursor
