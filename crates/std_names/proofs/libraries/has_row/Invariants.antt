use Rattle.std.proofs.Common.{◌≡◌, drop, map}
use Rattle.std_names.specs.Libraries.{has_row}
use Rattle.std_names.proofs.libraries.has_row.Given as goal

abbrev pub invariant-loop-row : goal.invariant-loop-row
invariant-loop-row l = has_row (map (λ r. (r.0.now, r.1.now, r.2)) (drop l.row-index l.table)) l.module ≡ has_row (map (λ r. (r.0.now, r.1.now, r.2)) l.table) l.module
