use Rattle.std.proofs.Common.{◌-◌, length, drop}
use Rattle.core_expr.specs.Index.{Indexes}
use Rattle.core_expr.proofs.rename.index.Given as goal

abbrev pub invariant-loop-done : goal.invariant-loop-done
invariant-loop-done l = Indexes l.by (drop (length l.by - l.done) l.by) l.places
