use Rattle.std.proofs.Common.{◌≡◌, map, take}
use Rattle.module_scope.specs.Known.{row_entry}
use Rattle.module_scope.proofs.library.entries_of.Given as goal

abbrev pub invariant-loop-row : goal.invariant-loop-row
invariant-loop-row l = l.entries.items ≡ map row_entry (take l.row-index l.table)
