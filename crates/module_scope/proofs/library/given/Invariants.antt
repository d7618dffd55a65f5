use Rattle.std.proofs.Common.{◌≡◌, ◌++◌, map, drop}
use Rattle.module_scope.specs.Scope.{seen}
use Rattle.module_scope.specs.Known.{row_entry}
use Rattle.module_scope.specs.Resolution.{given}
use Rattle.module_scope.proofs.library.given.Given as goal

abbrev pub invariant-loop-at : goal.invariant-loop-at
invariant-loop-at l = given 0 l.owner (map row_entry l.table) ≡ map seen l.names.items ++ given l.at l.owner (map row_entry (drop l.at l.table))
