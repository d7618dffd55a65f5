use Rattle.term_walks.specs.Walks.{image_at}
use Rattle.term_walks.proofs.MoveLaws.{images_more}
use Rattle.term_walks.proofs.putting_in.new_parts.Goals as goal

pub loop-part-preserved : goal.loop-part-preserved
loop-part-preserved c =
    images_more (image_at c.args.images.now.entries) c.args.parts.now c.loop-part.moved.items c.push.new.self.items c.loop-part.part-index c.image_of.result c.loop-part-test.true c.image_of.ensures c.in_ok-push.ensures.items c.loop-part.invariant
