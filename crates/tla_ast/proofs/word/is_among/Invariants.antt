use Rattle.std.proofs.Common.{◌≡◌, map, drop}
use Rattle.tla_ast.specs.Word as spec
use Rattle.tla_ast.proofs.word.is_among.Given as goal

abbrev pub invariant-loop-entry : goal.invariant-loop-entry
invariant-loop-entry l = spec.is_among (map (λ s. s.now) (drop l.entry-index l.table)) l.text ≡ spec.is_among (map (λ s. s.now) l.table) l.text
