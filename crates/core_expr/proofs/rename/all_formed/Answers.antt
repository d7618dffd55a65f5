use Rattle.core_expr.proofs.RenameLaws.{formed_pair}
use Rattle.core_expr.proofs.rename.all_formed.Goals as goal

pub loop-pair-preserved : goal.loop-pair-preserved
loop-pair-preserved c = formed_pair c.args.by.now c.loop-pair.pair-index c.pair-item.result c.loop-pair-test.true c.pair-item.is c.loop-pair.invariant c.length.ensures.formed
