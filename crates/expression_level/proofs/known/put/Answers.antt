use Rattle.std.proofs.Common.{arith}
use Rattle.expression_level.proofs.Puts.{put-next, put-ends}
use Rattle.expression_level.proofs.known.put.Goals as goal

pub loop-index-preserved : goal.loop-index-preserved
loop-index-preserved c = let a = c.min-index-end.ensures in let f = c.loop-index-test.true in
    put-next c.args.place _ c.loop-index.all c.join.new.self c.in_ok-given.given c.args.own.now c.args.args.now c.loop-index.index _ c.index-args-index.result c.loop-index.invariant (omega (arith, a, f)) (omega (arith, a, f)) c.index-args-index.is c.in_ok-given.ensures c.in_ok-join.ensures

pub returns : goal.returns
returns c = let a = c.min-index-end.ensures in let f = c.loop-index-test.false in put-ends c.args.place _ c.loop-index.all c.args.own.now c.args.args.now c.loop-index.index c.loop-index.invariant (omega (arith, a, f))
