use Rattle.std.proofs.Common.{◌≡◌, drop}
use Rattle.known_facts.specs.Shown.{items_of}
use Rattle.known_facts.specs.Binding.{over_items}
use Rattle.known_facts.proofs.item.Quantifier.over.Given as goal

abbrev pub invariant-loop-i : goal.invariant-loop-i
invariant-loop-i l = l.said ≡ over_items l.self (items_of (drop l.i l.items)) l.goal
