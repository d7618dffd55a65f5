use Rattle.std.proofs.Common.{◌≡◌, ◌++◌, drop}
use Rattle.canonical_form.specs.Named.{pairs_from}
use Rattle.canonical_form.proofs.pairs.pairs_of.Given as goal

abbrev pub invariant-loop-i : goal.invariant-loop-i
invariant-loop-i l = l.pairs.items ++ pairs_from l.i (drop l.i l.symbols) ≡ pairs_from 0 l.symbols
