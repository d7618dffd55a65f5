use Rattle.layer_tests.proofs.Pushed.{pushed}
use Rattle.layer_tests.proofs.chains.chain_of.Goals as goal

pub loop-word-preserved : goal.loop-word-preserved
loop-word-preserved c =
    rw (c.in_ok-pushed.ensures, c.waits_after-waits.ensures)
    (pushed c.loop-word.chain.items c.loop-word.waits c.in_ok-piece.piece c.loop-word.invariant c.in_ok-piece.ensures.0 c.in_ok-piece.ensures.1)
