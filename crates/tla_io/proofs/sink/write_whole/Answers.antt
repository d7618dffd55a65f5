use Rattle.std.proofs.Common.{◌∙◌, arith}
use Rattle.tla_io.proofs.Prefixes.{with_more_then, rest_is}
use Rattle.tla_io.proofs.sink.write_whole.Goals as goal

pub loop-done-preserved : goal.loop-done-preserved
loop-done-preserved g c = record {
  within = grind arith;
  so_far = (let rest = rest_is c.args.bytes.now c.loop-done.done in rw rest at c.in_ok-count.ensures.takes) ∙ with_more_then (g.K.Sink.taken c.args.out.now) (g.K.Sink.taken c.loop-done.out) c.args.bytes.now c.loop-done.done c.in_ok-count.count c.loop-done.invariant.so_far;
  nothing = λ e. absurd (let some = c.in_ok-count.ensures.some in omega arith);
  count = c.in_ok-count.ensures.cause ∙ c.loop-done.invariant.count;
}
