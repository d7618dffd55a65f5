use Rattle.std.proofs.Common.{length}
use Rattle.seq_calculus.specs.Calculus.{AllClosed}
use Rattle.search_definition.specs.Branches.{formulas}
use Rattle.search_definition.specs.Watches.{NoneBefore}
use Rattle.term_bank.specs.Banks.{Extends, IsDistinct}
use Rattle.branch_state.specs.Parts.{shown}
use Rattle.rank_rules.specs.Ranked.{rule_of, branch_of, AreKnown}
use Rattle.rank_rules.proofs.oldest_entry.oldest.Given as goal

abbrev pub invariant-loop-i : goal.invariant-loop-i
invariant-loop-i l = record {
  extends : Extends l.fn.bank l.bank;
  distinct : IsDistinct l.bank;
  known : AreKnown (length l.bank) (shown l.parts).now;
  closed : AllClosed (formulas (branch_of l.bank (shown l.parts).now));
  passed : NoneBefore (rule_of l.rank (branch_of l.bank (shown l.parts).now)) l.i (branch_of l.bank (shown l.parts).now);
}
