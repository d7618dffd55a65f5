use Rattle.std.proofs.Common.{sym, ◌∙◌, ap, []}
use Rattle.core_expr.specs.Flat.{tree_of}
use Rattle.core_expr.specs.Spans.{spans_from}
use Rattle.core_expr.proofs.SpanLaws.{spans_from-rows_of}
use Rattle.core_expr.proofs.expr.Expr.of_rows.Goals as goal

pub invariant_of-result : goal.invariant_of-result
invariant_of-result c =
    (c.requires.whole, c.requires.formed, c.in_ok-spans.ensures ∙ ap (spans_from []) (c.as_slice.ensures ∙ sym c.requires.whole) ∙ spans_from-rows_of (tree_of c.args.rows))
