use Rattle.std.proofs.Common.{length}
use Rattle.term_bank.proofs.TableLaws.{AreBelow-at}
use Rattle.term_order.proofs.SizeLaws.{size_more}
use Rattle.term_order.proofs.sizes.size_over.Goals as goal

pub size_at-requires : goal.size_at-requires
size_at-requires c = AreBelow-at (length c.args.sizes.now) c.args.parts.now c.loop-part.part-index c.requires c.loop-part-test.true

pub loop-part-preserved : goal.loop-part-preserved
loop-part-preserved c =
    size_more c.args.sizes.now c.args.parts.now c.loop-part.part-index c.loop-part.size c.in-Some.more c.size_at.result c.loop-part-test.true c.size_at.ensures c.in-Some.ensures.1 c.loop-part.invariant
