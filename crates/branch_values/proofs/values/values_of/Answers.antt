use Rattle.std.proofs.Common.{refl}
use Rattle.branch_values.proofs.Keeping.{values_turn}
use Rattle.branch_values.proofs.values.values_of.Goals as goal

pub loop-k-preserved : goal.loop-k-preserved
loop-k-preserved c = λ ts b a. values_turn c.args.tasks.now c.loop-k.k _ c.loop-k-test.true ts b c.loop-k.values.entries c.keep_value.new.values.entries _ c.work_value-value.result refl c.work_value-value.ensures c.in_ok-keep_value.ensures a (c.loop-k.invariant ts b a)
