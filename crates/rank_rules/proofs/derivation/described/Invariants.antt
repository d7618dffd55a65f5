use Rattle.std.proofs.Common.{◌≡◌, drop}
use Rattle.search_definition.specs.Terms.{first_some}
use Rattle.search_definition.specs.Branches.{alive}
use Rattle.search_definition.specs.Equations.{describes}
use Rattle.term_bank.specs.Banks.{tree_at}
use Rattle.branch_state.specs.Parts.{shown}
use Rattle.rank_rules.specs.Ranked.{branch_of}
use Rattle.rank_rules.proofs.derivation.described.Given as goal

abbrev pub invariant-loop-i : goal.invariant-loop-i
invariant-loop-i l = first_some (describes (tree_at l.bank l.g)) (alive (branch_of l.bank (drop l.i (shown l.parts).now))) ≡ first_some (describes (tree_at l.bank l.g)) (alive (branch_of l.bank (shown l.parts).now))
