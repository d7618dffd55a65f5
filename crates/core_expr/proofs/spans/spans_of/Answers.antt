use Rattle.std.proofs.Common.{arith, ◌≡◌, ◌+◌, ◌-◌, suc, length, ◌∙◌}
use Rattle.std.proofs.lemmas.Grind.{common_steps}
use Rattle.core_expr.specs.Spans.{back_over}
use Rattle.core_expr.proofs.SpanLaws.{spans_step}
use Rattle.core_expr.proofs.spans.spans_of.Goals as goal

pub loop-row-preserved : goal.loop-row-preserved
loop-row-preserved c =
    let w : c.back_over-start.result ≡ back_over c.loop-row.spans c.row-item.result.parts (length c.loop-row.spans) =
    c.back_over-start.ensures.value ∙ (λ i. back_over (c.as_slice.ensures i) c.row-item.result.parts (c.len-end.ensures i)) in
    let m : (c.len-end.result - c.back_over-start.result) + 1 ≡ suc (length c.loop-row.spans - back_over c.loop-row.spans c.row-item.result.parts (length c.loop-row.spans)) =
    omega (arith, w, c.len-end.ensures)
    in (
      spans_step c.args.rows.now c.loop-row.row-index c.row-item.result c.loop-row.spans c.push.new.self ((c.len-end.result - c.back_over-start.result) + 1) c.loop-row-test.true c.row-item.is c.loop-row.invariant.0 m (c.in_ok-push.ensures.ok),
      grind (arith, common_steps, c.in_ok-push.ensures.ok, c.loop-row.invariant.1),
    )
