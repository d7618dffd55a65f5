use Rattle.std.proofs.Common.{◌≡◌, take}
use Rattle.module_shelf.proofs.loader.with_name.Given as goal

abbrev pub invariant-loop-entry : goal.invariant-loop-entry
invariant-loop-entry l = l.all ≡ take l.entry-index l.path
