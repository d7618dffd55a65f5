use Rattle.std.proofs.Common.{length, ◌-◌, drop}
use Rattle.term_bank.specs.Banks.{IsDistinct, Extends}
use Rattle.branch_state.specs.Parts.{shown}
use Rattle.tableau_search.specs.Entries.{branch_of}
use Rattle.formula_rules.specs.Answers.{trees_at}
use Rattle.value_ranks.specs.Sides.{IsSide}
use Rattle.value_ranks.proofs.side.side_on.Given as goal

abbrev pub invariant-loop-k : goal.invariant-loop-k
invariant-loop-k l =
    record {
      side : IsSide l.bank (branch_of l.initial.bank (shown l.parts).now) (trees_at l.initial.bank (drop (length l.list - l.k) l.list)) l.side;
      extends : Extends l.initial.bank l.bank;
      distinct : IsDistinct l.bank;
    }
