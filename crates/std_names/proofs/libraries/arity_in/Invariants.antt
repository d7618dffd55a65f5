use Rattle.std.proofs.Common.{◌≡◌, drop, map}
use Rattle.std_names.specs.Libraries.{arity_in}
use Rattle.std_names.proofs.libraries.arity_in.Given as goal

abbrev pub invariant-loop-row : goal.invariant-loop-row
invariant-loop-row l = arity_in (map (λ r. (r.0.now, r.1.now, r.2)) (drop l.row-index l.table)) l.module l.name ≡ arity_in (map (λ r. (r.0.now, r.1.now, r.2)) l.table) l.module l.name
