use Rattle.std.proofs.Common.{◌≡◌, ◌++◌, drop}
use Rattle.std.specs.Prelude.{option_map}
use Rattle.serde_json.specs.View.{items_view}
use Rattle.cache_line.specs.Lines.{numbers_of}
use Rattle.cache_line.proofs.read.numbers.Given as goal

abbrev pub invariant-loop-item : goal.invariant-loop-item
invariant-loop-item l = option_map (λ ns. l.found.items ++ ns) (numbers_of (items_view (drop l.item-index l.items))) ≡ numbers_of (items_view l.items)
