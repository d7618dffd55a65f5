use Rattle.std.proofs.Common.{◌-◌, ◌+◌, length, arith}
use Rattle.core_expr.proofs.IndexLaws.{index_step, index_start}
use Rattle.core_expr.proofs.rename.index.Goals as goal

pub loop-done-init : goal.loop-done-init
loop-done-init c = index_start c.args.by.now c.new-places.result (length c.args.by.now - 0) (omega arith) c.new-places.ensures.empty

pub loop-done-preserved : goal.loop-done-preserved
loop-done-preserved c =
    let t = c.loop-done-test.true in
    index_step c.args.by.now c.loop-done.places c.insert.new.self ((length c.args.by.now - 1) - c.loop-done.done) (length c.args.by.now - c.loop-done.done) (length c.args.by.now - (c.loop-done.done + 1)) c.index-by-at.result (omega (arith, t)) (omega (arith, t)) (omega (arith, t)) c.loop-done.invariant c.in-Ok.ensures.updates.0
