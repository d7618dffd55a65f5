use Rattle.std.proofs.Common.{arith}
use Rattle.seq_calculus.proofs.Listed.{pairs_step}
use Rattle.seq_calculus.proofs.tuple.equations.Goals as goal

pub loop-i-preserved : goal.loop-i-preserved
loop-i-preserved c =
    pairs_step c.args.left.now c.args.right.now c.loop-i.i c.index-left-i.result c.index-right-i.result c.in_ok-pair.field-0 c.loop-i.out.items c.push.new.self.items c.requires (omega arith) c.index-left-i.is c.index-right-i.is c.loop-i.invariant
    c.in_ok-pair.ensures c.in_ok-push.ensures.items
