use Rattle.term_walks.proofs.WalkLaws.{parts_more, parts_all}
use Rattle.std.proofs.Common.{get_or, refl}
use Rattle.term_walks.proofs.touched.add_parts.Goals as goal

pub loop-part-preserved : goal.loop-part-preserved
loop-part-preserved c = parts_more c.args.parts.now c.loop-part.part-index (get_or c.args.parts.now c.loop-part.part-index 0) c.args.todo.now.keys c.loop-part.todo.keys c.put.new.todo.keys c.loop-part-test.true refl c.in_ok-put.ensures c.loop-part.invariant

pub returns : goal.returns
returns c = parts_all c.args.parts.now c.loop-part.part-index c.args.todo.now.keys c.loop-part.todo.keys c.loop-part-test.false c.loop-part.invariant
