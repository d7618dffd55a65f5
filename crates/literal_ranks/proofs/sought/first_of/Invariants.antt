use Rattle.std.proofs.Common.{◌≡◌, drop}
use Rattle.core_expr.specs.Nodes.{picked}
use Rattle.term_bank.specs.Banks.{IsDistinct, Extends}
use Rattle.search_definition.specs.Terms.{first_some}
use Rattle.branch_state.specs.Parts.{shown}
use Rattle.tableau_search.specs.Entries.{branch_of}
use Rattle.literal_ranks.specs.Seeking.{sought_at}
use Rattle.literal_ranks.proofs.sought.first_of.Given as goal

abbrev pub invariant-loop-k : goal.invariant-loop-k
invariant-loop-k l =
    record {
      passed : first_some (sought_at l.sought (branch_of l.initial.bank (shown l.parts).now)) (picked l.initial.bank l.terms) ≡ first_some (sought_at l.sought (branch_of l.initial.bank (shown l.parts).now)) (picked l.initial.bank (drop l.k l.terms));
      extends : Extends l.initial.bank l.bank;
      distinct : IsDistinct l.bank;
    }
