use Rattle.std.proofs.Common.{◌≡◌, ◌++◌, drop}
use Rattle.prime_expand.specs.Symbols as spec
use Rattle.prime_expand.proofs.symbols.flagged.Given as goal

abbrev pub invariant-loop-i : goal.invariant-loop-i
invariant-loop-i l = spec.flagged l.flags l.args ≡ l.found.items ++ spec.flagged (drop l.i l.flags) (drop l.i l.args)
