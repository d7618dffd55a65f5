use Rattle.std.proofs.Common.{◌≡◌, ◌++◌}
use Rattle.canonical_form.specs.Named.{variables}
use Rattle.canonical_form.proofs.pairs.variables.Given as goal

abbrev pub invariant-loop-i : goal.invariant-loop-i
invariant-loop-i l = l.found.items ++ variables l.i ≡ variables l.arity
