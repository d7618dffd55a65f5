use Rattle.std.proofs.Common.{◌≡◌, drop}
use Rattle.core_expr.specs.Rename.{applied_symbol}
use Rattle.core_expr.proofs.rename.applied_symbol.Given as goal

abbrev pub invariant-loop-at : goal.invariant-loop-at
invariant-loop-at l = applied_symbol l.parts l.left (drop l.at l.rows) ≡ applied_symbol l.parts l.parts l.rows
