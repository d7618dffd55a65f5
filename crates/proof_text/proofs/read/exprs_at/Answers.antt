use Rattle.proof_text.specs.Texts.{trees_in}
use Rattle.proof_text.proofs.TableTrees.{picked_step, below-at}
use Rattle.proof_text.proofs.read.exprs_at.Goals as goal

pub expr_at-requires-clause-root : goal.expr_at-requires-clause-root
expr_at-requires-clause-root c = below-at _ c.args.places.now c.loop-place.place-index c.requires.places c.loop-place-test.true

pub loop-place-preserved : goal.loop-place-preserved
loop-place-preserved c =
    picked_step (trees_in c.args.nodes.now) c.args.places.now c.loop-place.place-index _ _ _ c.loop-place-test.true c.loop-place.invariant c.in_ok-expr_at.ensures c.in_ok-push.ensures.ok
