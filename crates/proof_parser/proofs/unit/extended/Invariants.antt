use Rattle.std.proofs.Common.{◌≡◌, map, take}
use Rattle.proof_parser.specs.Modules.{extended}
use Rattle.proof_parser.proofs.unit.extended.Given as goal

abbrev pub invariant-loop-decl : goal.invariant-loop-decl
invariant-loop-decl l = l.all ≡ map extended (take l.decl-index l.names)
