use Rattle.std.proofs.Common.{◌≡◌, ◌<◌, drop, length}
use Rattle.core_expr.specs.Nodes.{AreBelow, picked}
use Rattle.seq_calculus.specs.Schemas.{join_from}
use Rattle.term_bank.specs.Banks.{Extends, IsDistinct, tree_at}
use Rattle.formula_rules.specs.Answers.{joined}
use Rattle.formula_rules.proofs.join.join_rest.Given as goal

abbrev pub invariant-loop-item : goal.invariant-loop-item
invariant-loop-item l = record {
  within : l.whole < length l.bank;
  left : AreBelow (length l.fn.bank) (drop l.item-index l.rest);
  extends : Extends l.fn.bank l.bank;
  distinct : IsDistinct l.bank;
  tree : join_from (joined l.op) (tree_at l.bank l.whole) (picked l.fn.bank (drop l.item-index l.rest)) ≡ join_from (joined l.op) (tree_at l.fn.bank l.first) (picked l.fn.bank l.rest);
}
