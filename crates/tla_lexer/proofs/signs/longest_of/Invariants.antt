use Rattle.std.proofs.Common.{◌≡◌, ◌≤◌, [], drop, map, length}
use Rattle.tla_lexer.specs.Signs.{longest_from}
use Rattle.tla_lexer.proofs.signs.longest_of.Given as goal

abbrev pub invariant-loop-sign : goal.invariant-loop-sign
invariant-loop-sign l = (longest_from l.best (map (λ s. s.now) (drop l.sign-index l.table)) l.z ≡ longest_from [] (map (λ s. s.now) l.table) l.z) × (length l.best ≤ length l.z)
