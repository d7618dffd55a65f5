use Rattle.std.proofs.Common.{drop}
use Rattle.core_expr.specs.Nodes.{picked}
use Rattle.seq_calculus.specs.Schemas.{equal_pairs}
use Rattle.term_bank.specs.Banks.{Extends, IsDistinct}
use Rattle.formula_rules.proofs.Listing.{IsListing}
use Rattle.formula_rules.proofs.join.equal_pairs.Given as goal

abbrev pub invariant-loop-i : goal.invariant-loop-i
invariant-loop-i l = record {
  extends : Extends l.fn.bank l.bank;
  distinct : IsDistinct l.bank;
  listing : IsListing l.bank l.equations.items (equal_pairs (picked l.fn.bank (drop l.i l.left)) (picked l.fn.bank (drop l.i l.right))) (equal_pairs (picked l.fn.bank l.left) (picked l.fn.bank l.right));
}
