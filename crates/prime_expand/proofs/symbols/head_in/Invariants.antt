use Rattle.std.proofs.Common.{◌≡◌, drop, map}
use Rattle.prime_expand.specs.Symbols.{head_in}
use Rattle.prime_expand.proofs.symbols.head_in.Given as goal

abbrev pub invariant-loop-row : goal.invariant-loop-row
invariant-loop-row l = head_in (map (λ r. (r.0.now, r.1)) l.rows) l.sign ≡ head_in (map (λ r. (r.0.now, r.1)) (drop l.row-index l.rows)) l.sign
