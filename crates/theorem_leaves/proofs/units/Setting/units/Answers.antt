use Rattle.std.proofs.Common.{sym, ap, ◌∙◌}
use Rattle.theorem_leaves.specs.Theorems.{reported_unit, told_unit, passed_units}
use Rattle.theorem_leaves.proofs.Runs.{next-one}
use Rattle.theorem_leaves.proofs.units.Setting.units.Goals as goal

pub loop-unit-preserved : goal.loop-unit-preserved
loop-unit-preserved c = λ a h.
    let w = c.args.self.now in let x = c.unit-item.result in let before = c.loop-unit.invariant a h in
    let now = reported_unit w x before.0 in (
      told_unit w x now,
      c.in_ok-tell.ensures now (c.in_ok-report.ensures before.0 before.1),
      ap (λ l. passed_units w l before.0) (sym (next-one c.args.units.now c.loop-unit.unit-index x c.loop-unit-test.true c.unit-item.is)) ∙ before.2,
    )
