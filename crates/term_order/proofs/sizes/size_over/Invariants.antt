use Rattle.std.proofs.Common.{◌≡◌, suc, take}
use Rattle.term_order.specs.Sizes.{sizes_all}
use Rattle.term_order.proofs.sizes.size_over.Given as goal

abbrev pub invariant-loop-part : goal.invariant-loop-part
invariant-loop-part l = l.size ≡ suc (sizes_all l.sizes (take l.part-index l.parts))
