use Rattle.std.proofs.Common.{◌≡◌, drop, map}
use Rattle.token_reader.specs.Marks.{mark_in}
use Rattle.token_reader.proofs.mark.mark_in.Given as goal

abbrev pub invariant-loop-row : goal.invariant-loop-row
invariant-loop-row l = mark_in (map (λ r. (r.0.now, r.1)) (drop l.row-index l.table)) l.text l.otherwise ≡ mark_in (map (λ r. (r.0.now, r.1)) l.table) l.text l.otherwise
