use Rattle.term_bank.specs.Banks.{tree_at}
use Rattle.branch_state.specs.Parts.{shown}
use Rattle.equation_ranks.specs.Replacing.{FitsNone}
use Rattle.equation_ranks.proofs.replacing.oldest_fit.Given as goal

abbrev pub invariant-loop-i : goal.invariant-loop-i
invariant-loop-i l = FitsNone l.bank (shown l.parts).now (tree_at l.bank l.q) (tree_at l.bank l.greater) l.i
