use Rattle.std.proofs.Common.{◌≡◌, drop, map}
use Rattle.std_names.specs.Operators.{row_in}
use Rattle.std_names.proofs.operators.row_in.Given as goal

abbrev pub invariant-loop-row : goal.invariant-loop-row
invariant-loop-row l = row_in (map (λ r. (r.0.now, r.1, r.2, r.3)) (drop l.row-index l.table)) l.sign ≡ row_in (map (λ r. (r.0.now, r.1, r.2, r.3)) l.table) l.sign
