use Rattle.std.proofs.Common.{◌<◌, length, get_or, rules}
use Rattle.proof_text.proofs.TableTrees.{below-at}
use Rattle.text_writer.proofs.shared.known.Goals as goal

pub bounds : goal.bounds
bounds c = below-at _ c.args.parts.now c.loop-part.part-index c.requires c.loop-part-test.true

pub offset_bounds-places-part : goal.offset_bounds-places-part
offset_bounds-places-part c =
    let h : get_or c.args.parts.now c.loop-part.part-index 0 < length c.args.places.now = below-at _ c.args.parts.now c.loop-part.part-index c.requires c.loop-part-test.true in
    search rules
