use Rattle.std.proofs.Common.{◌≡◌, drop, map}
use Rattle.tla_lexer.specs.Signs.{canonical_in}
use Rattle.tla_lexer.proofs.signs.canonical_in.Given as goal

abbrev pub invariant-loop-pair : goal.invariant-loop-pair
invariant-loop-pair l = canonical_in (map (λ p. (p.0.now, p.1.now)) (drop l.pair-index l.table)) l.spelled ≡ canonical_in (map (λ p. (p.0.now, p.1.now)) l.table) l.spelled
