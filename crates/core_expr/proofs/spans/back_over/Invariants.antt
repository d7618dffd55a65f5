use Rattle.std.proofs.Common.{◌≡◌, ◌-◌, ◌≤◌}
use Rattle.core_expr.specs.Spans.{back_over}
use Rattle.core_expr.proofs.spans.back_over.Given as goal

abbrev pub invariant-loop-skipped : goal.invariant-loop-skipped
invariant-loop-skipped l = (back_over l.spans (l.parts - l.skipped) l.start ≡ back_over l.spans l.parts l.end) × (l.start ≤ l.end)
