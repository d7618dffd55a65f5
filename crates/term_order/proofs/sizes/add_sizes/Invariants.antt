use Rattle.std.proofs.Common.{◌≡◌, length}
use Rattle.term_order.specs.Sizes.{AreSizes}
use Rattle.term_order.proofs.sizes.add_sizes.Given as goal

abbrev pub invariant-loop-i : goal.invariant-loop-i
invariant-loop-i l = record { right : AreSizes l.bank l.sizes.items; next : length l.sizes.items ≡ l.i }
