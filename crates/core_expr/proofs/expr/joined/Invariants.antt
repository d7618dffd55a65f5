use Rattle.std.proofs.Common.{◌≡◌, true}
use Rattle.core_expr.specs.Heads.{parts_of, are_well_formed}
use Rattle.core_expr.specs.Spans.{spans_in, rows_in}
use Rattle.core_expr.proofs.expr.joined.Given as goal

abbrev pub invariant-loop-part : goal.invariant-loop-part
invariant-loop-part l = record { rows : l.forest.rows ≡ rows_in l.yielded; spans : l.forest.spans ≡ spans_in l.yielded; formed : are_well_formed (parts_of l.yielded) ≡ true }
