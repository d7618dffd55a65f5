use Rattle.std.proofs.Common.{◌≡◌, None, length, take}
use Rattle.term_bank.specs.Banks.{IsDistinct, Extends}
use Rattle.search_definition.specs.Branches.{closing}
use Rattle.branch_state.specs.Parts.{shown}
use Rattle.tableau_search.specs.Entries.{AreKnown, branch_of}
use Rattle.equation_ranks.proofs.closing.close_from.Given as goal

abbrev pub invariant-loop-i : goal.invariant-loop-i
invariant-loop-i l =
    record {
      extends : Extends l.fn.bank l.bank;
      distinct : IsDistinct l.bank;
      known : AreKnown (length l.bank) (shown l.parts).now;
      unclosed : closing (branch_of l.bank (take l.i (shown l.parts).now)) ≡ None;
    }
