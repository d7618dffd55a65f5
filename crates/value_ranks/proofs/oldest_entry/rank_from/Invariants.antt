use Rattle.std.proofs.Common.{length}
use Rattle.search_definition.specs.Watches.{NoneBefore}
use Rattle.term_bank.specs.Banks.{Extends, IsDistinct}
use Rattle.branch_state.specs.Parts.{shown}
use Rattle.tableau_search.specs.Entries.{branch_of, AreKnown}
use Rattle.value_ranks.specs.Ranked.{rule_of}
use Rattle.value_ranks.proofs.oldest_entry.rank_from.Given as goal

abbrev pub invariant-loop-i : goal.invariant-loop-i
invariant-loop-i l = record {
  extends : Extends l.fn.bank l.bank;
  distinct : IsDistinct l.bank;
  known : AreKnown (length l.bank) (shown l.parts).now;
  passed : NoneBefore (rule_of l.rank (branch_of l.bank (shown l.parts).now)) l.i (branch_of l.bank (shown l.parts).now);
}
