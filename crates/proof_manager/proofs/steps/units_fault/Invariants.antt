use Rattle.std.proofs.Common.{◌≡◌, map, drop}
use Rattle.plain_syntax.specs.Syntax.{unit_of}
use Rattle.proof_manager.specs.Reading.{units_fault}
use Rattle.proof_manager.proofs.steps.units_fault.Given as goal

abbrev pub invariant-loop-unit : goal.invariant-loop-unit
invariant-loop-unit l = units_fault (map unit_of (drop l.unit-index l.units)) ≡ units_fault (map unit_of l.units)
