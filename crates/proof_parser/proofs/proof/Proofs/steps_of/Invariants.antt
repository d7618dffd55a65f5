use Rattle.std.proofs.Common.{◌≡◌, ◌-◌}
use Rattle.proof_parser.specs.Modules.{steps_of, steps_from, subproof}
use Rattle.proof_parser.proofs.proof.Proofs.steps_of.Given as goal

abbrev pub invariant-loop-turn : goal.invariant-loop-turn
invariant-loop-turn g l = steps_of l.self.clauses.nestings (subproof l.self.left) l.level_of l.levels l.fn.cursor ≡ steps_from l.self.clauses.nestings (subproof l.self.left) (l._turn-end - l._turn) l.level_of l.levels l.found l.cursor
