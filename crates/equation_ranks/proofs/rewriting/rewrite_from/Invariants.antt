use Rattle.std.proofs.Common.{length}
use Rattle.term_bank.specs.Banks.{IsDistinct, Extends}
use Rattle.search_definition.specs.Plain.{rewrite}
use Rattle.search_definition.specs.Watches.{NoneBefore}
use Rattle.branch_state.specs.Parts.{shown}
use Rattle.tableau_search.specs.Entries.{AreKnown, AreClosed, branch_of}
use Rattle.equation_ranks.proofs.rewriting.rewrite_from.Given as goal

abbrev pub invariant-loop-i : goal.invariant-loop-i
invariant-loop-i l =
    record {
      extends : Extends l.fn.bank l.bank;
      distinct : IsDistinct l.bank;
      known : AreKnown (length l.bank) (shown l.parts).now;
      closed : AreClosed l.bank (shown l.parts).now;
      before : NoneBefore rewrite l.i (branch_of l.bank (shown l.parts).now);
    }
