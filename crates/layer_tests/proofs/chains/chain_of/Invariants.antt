use Rattle.layer_tests.proofs.Pushed.{Grows}
use Rattle.layer_tests.proofs.chains.chain_of.Given as goal

abbrev pub invariant-loop-word : goal.invariant-loop-word
invariant-loop-word l = Grows l.chain.items l.waits
