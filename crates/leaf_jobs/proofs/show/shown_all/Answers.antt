use Rattle.std.proofs.Common.{arith}
use Rattle.std.proofs.lemmas.Grind.{common_steps}
use Rattle.leaf_jobs.proofs.Pairs.{shown_ends}
use Rattle.leaf_jobs.proofs.show.shown_all.Goals as goal

pub returns : goal.returns
returns c = grind (arith, common_steps, shown_ends c.args.scoped.now.entries c.args.verdicts.now c.args.names.now c.args.jobs.now c.loop-i.i (omega arith))
