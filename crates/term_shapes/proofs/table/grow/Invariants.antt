use Rattle.std.proofs.Common.{◌≤◌, drop, length}
use Rattle.core_expr.specs.Nodes.{picked}
use Rattle.term_bank.specs.Banks.{Extends, IsDistinct}
use Rattle.term_shapes.specs.Forms.{IsTable, grown}
use Rattle.term_shapes.proofs.table.grow.Given as goal

abbrev pub invariant-loop-form : goal.invariant-loop-form
invariant-loop-form l = record {
  table : IsTable l.bank l.places.items (drop l.form-index l.forms) (grown (picked l.fn.bank l.terms) l.forms);
  extends : Extends l.fn.bank l.bank;
  distinct : IsDistinct l.bank;
  some : l.form-index ≤ length l.places.items;
}
