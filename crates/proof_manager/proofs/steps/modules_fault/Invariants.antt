use Rattle.std.proofs.Common.{◌≡◌, map, drop}
use Rattle.plain_syntax.specs.Syntax.{module_of}
use Rattle.proof_manager.specs.Reading.{fault_from}
use Rattle.proof_manager.proofs.steps.modules_fault.Given as goal

abbrev pub invariant-loop-number : goal.invariant-loop-number
invariant-loop-number l = fault_from l.number (map module_of (drop l.number l.modules)) ≡ fault_from 0 (map module_of l.modules)
