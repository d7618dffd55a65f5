use Rattle.std.proofs.Common.{arith, ◌≤◌}
use Rattle.core_expr.proofs.SpanLaws.{back_step}
use Rattle.core_expr.proofs.spans.back_over.Goals as goal

pub loop-skipped-preserved : goal.loop-skipped-preserved
loop-skipped-preserved c =
    let s : c.before-start.result ≤ c.loop-skipped.start = omega (arith, c.before-start.ensures) in
    (back_step c.args.spans.now c.args.parts c.loop-skipped.skipped c.loop-skipped.start c.before-start.result _ c.loop-skipped-test.true c.before-start.ensures c.loop-skipped.invariant.0, omega (arith, s, c.loop-skipped.invariant.1))
