use Rattle.std.proofs.Common.{◌≡◌, ◌-◌}
use Rattle.proof_parser.specs.Modules.{units, units_from}
use Rattle.proof_parser.proofs.unit.units.Given as goal

abbrev pub invariant-loop-turn : goal.invariant-loop-turn
invariant-loop-turn l = units l.fn.cursor ≡ units_from (l._turn-end - l._turn) l.after_steps l.found l.cursor
