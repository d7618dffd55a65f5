use Rattle.std.proofs.Common.{arith}
use Rattle.std.proofs.lemmas.Grind.{common_steps}
use Rattle.leaf_jobs.specs.Values.{symbol_text}
use Rattle.leaf_jobs.proofs.Pairs.{more_ends}
use Rattle.leaf_jobs.proofs.values.push_more.Goals as goal

pub returns : goal.returns
returns c = grind (arith, common_steps, more_ends (symbol_text c.args.scoped.now.entries) c.args.order.now c.args.values.now c.loop-i.i (omega arith))
