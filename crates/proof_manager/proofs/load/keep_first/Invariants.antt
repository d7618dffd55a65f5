use Rattle.std.proofs.Common.{◌≡◌, length, take}
use Rattle.proof_manager.proofs.load.keep_first.Given as goal

abbrev pub invariant-loop-loaded : goal.invariant-loop-loaded
invariant-loop-loaded l = take l.count l.loaded.modules ≡ take l.count l.fn.loaded.modules

abbrev pub decreases-loop-loaded : goal.decreases-loop-loaded
decreases-loop-loaded l = length l.loaded.modules
