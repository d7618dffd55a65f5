use Rattle.std.proofs.Common.{◌∙◌, ap}
use Rattle.status_report.specs.declared.table.LeafIn.{LeafIn}
use Rattle.status_report.specs.Statuses.{verdict_of}
use Rattle.status_report.proofs.Worst.{worst_next}
use Rattle.status_report.specs.Telling.{verdict_in}
use Rattle.status_report.proofs.judge.worst.Goals as goal

pub loop-leaf-preserved : goal.loop-leaf-preserved
loop-leaf-preserved c =
    worst_next c.args.leaves.now c.loop-leaf.leaf-index c.leaf-item.result (verdict_in c.loop-leaf.found) (verdict_in c.worse-found.result) (verdict_in c.verdict_of.result) _
    c.loop-leaf-test.true (c.verdict_of.ensures ∙ ap (λ (l : LeafIn). verdict_of l.verdict) c.leaf-item.is) c.loop-leaf.invariant c.worse-found.ensures
