use Rattle.term_order.specs.Sizes.{AreSizes}
use Rattle.branch_state.specs.Parts.{shown}
use Rattle.equation_ranks.specs.Replacing.{NoneReplaces}
use Rattle.equation_ranks.proofs.replacing.oldest_replacement.Given as goal

abbrev pub invariant-loop-i : goal.invariant-loop-i
invariant-loop-i l = record { sizes : AreSizes l.bank l.sizes; before : NoneReplaces l.bank (shown l.parts).now l.i }
