use Rattle.std.proofs.Common.{◌≡◌, take}
use Rattle.obligation.proofs.obligation.copy_definitions.Given as goal

abbrev pub invariant-loop-def : goal.invariant-loop-def
invariant-loop-def l = l.copies ≡ take l.def-index l.defs
