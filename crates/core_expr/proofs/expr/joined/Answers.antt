use Rattle.core_expr.proofs.BuildLaws.{rows_in-push, spans_in-push, formed-push}
use Rattle.core_expr.proofs.expr.joined.Goals as goal

pub loop-part-preserved : goal.loop-part-preserved
loop-part-preserved c =
    record {
      rows = rows_in-push c.loop-part.yielded c.in-Some.part _ _ _ c.loop-part.invariant.rows c.into_forest.ensures.rows c.in_ok-forest.ensures.rows;
      spans = spans_in-push c.loop-part.yielded c.in-Some.part _ _ _ c.loop-part.invariant.spans c.into_forest.ensures.spans c.in_ok-forest.ensures.spans;
      formed = formed-push c.loop-part.yielded c.in-Some.part c.loop-part.invariant.formed c.into_forest.ensures.formed;
    }
