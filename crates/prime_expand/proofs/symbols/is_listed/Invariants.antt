use Rattle.std.proofs.Common.{◌≡◌, drop, map}
use Rattle.prime_expand.specs.Symbols.{is_listed}
use Rattle.prime_expand.proofs.symbols.is_listed.Given as goal

abbrev pub invariant-loop-listed : goal.invariant-loop-listed
invariant-loop-listed l = is_listed l.sign (map (λ s. s.now) l.signs) ≡ is_listed l.sign (map (λ s. s.now) (drop l.listed-index l.signs))
