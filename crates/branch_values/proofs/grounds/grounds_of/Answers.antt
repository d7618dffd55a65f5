use Rattle.std.proofs.Common.{refl}
use Rattle.branch_values.proofs.Keeping.{grounds_turn, grounds_all}
use Rattle.branch_values.proofs.grounds.grounds_of.Goals as goal

pub loop-k-preserved : goal.loop-k-preserved
loop-k-preserved c = λ ts b d a v. grounds_turn c.args.tasks.now c.loop-k.k _ c.loop-k-test.true ts b c.args.values.now.entries c.loop-k.grounds.entries c.keep_grounds.new.grounds.entries _ c.in_ok-list.list refl c.in_ok-list.ensures c.in_ok-keep_grounds.ensures d a v (c.loop-k.invariant ts b d a v)

pub returns : goal.returns
returns c = λ ts b d a v. grounds_all ts b c.loop-k.grounds.entries c.args.tasks.now c.loop-k.k c.loop-k-test.false (c.loop-k.invariant ts b d a v)
