use Rattle.std.proofs.Common.{drop, length}
use Rattle.core_expr.specs.Nodes.{AreBelow, picked}
use Rattle.seq_calculus.specs.Schemas.{equals_each}
use Rattle.term_bank.specs.Banks.{Extends, IsDistinct, tree_at}
use Rattle.formula_rules.proofs.Listing.{IsListing}
use Rattle.formula_rules.proofs.join.equals_each.Given as goal

abbrev pub invariant-loop-entry : goal.invariant-loop-entry
invariant-loop-entry l = record {
  left : AreBelow (length l.fn.bank) (drop l.entry-index l.entries);
  extends : Extends l.fn.bank l.bank;
  distinct : IsDistinct l.bank;
  listing : IsListing l.bank l.equations.items (equals_each (tree_at l.fn.bank l.t) (picked l.fn.bank (drop l.entry-index l.entries))) (equals_each (tree_at l.fn.bank l.t) (picked l.fn.bank l.entries));
}
