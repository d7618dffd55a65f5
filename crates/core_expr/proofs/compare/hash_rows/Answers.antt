use Rattle.std.proofs.Common.{arith}
use Rattle.core_expr.proofs.Fed.{fed_step}
use Rattle.core_expr.proofs.compare.hash_rows.Goals as goal

pub loop-i-preserved : goal.loop-i-preserved
loop-i-preserved g c = (
  omega (arith, c.loop-i-test.true),
  fed_step g.H.Hasher.write c.args.state.now c.loop-i.state c.hash_row.new.state c.args.rows.now c.loop-i.i c.index-rows-i.result c.loop-i-test.true c.index-rows-i.is c.loop-i.invariant.1 c.hash_row.ensures,
)
