use Rattle.std.proofs.Common.{◌≡◌, [], length, take}
use Rattle.core_expr.specs.Spans.{spans_from}
use Rattle.core_expr.proofs.spans.spans_of.Given as goal

abbrev pub invariant-loop-row : goal.invariant-loop-row
invariant-loop-row l = (l.spans ≡ spans_from [] (take l.row-index l.rows)) × (length l.spans ≡ l.row-index)
