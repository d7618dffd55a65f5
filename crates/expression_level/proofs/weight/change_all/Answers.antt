use Rattle.std.proofs.Common.{arith}
use Rattle.std.proofs.lemmas.List.Edits.{map_over_more}
use Rattle.expression_level.specs.Store.{changed}
use Rattle.expression_level.proofs.weight.change_all.Goals as goal

pub loop-index-preserved : goal.loop-index-preserved
loop-index-preserved c =
    let s = map_over_more (changed c.args.change) c.args.uses.now.items c.loop-index.uses.items c.loop-index.index c.index.result.now (let e = c.len-index-end.ensures in let f = c.loop-index-test.true in omega (arith, e, f)) c.loop-index.invariant c.index.ensures in cc
