use Rattle.std.proofs.Common.{◌≡◌, ◌++◌, map, drop}
use Rattle.plain_syntax.specs.Syntax.{item_of}
use Rattle.known_facts.specs.Shown.{items_of}
use Rattle.usable_facts.specs.Proofs.{items}
use Rattle.theorem_leaves.specs.Homes.{means, entries}
use Rattle.theorem_leaves.proofs.home.Home.items.Given as goal

abbrev pub invariant-loop-item : goal.invariant-loop-item
invariant-loop-item l =
    items_of l.found ++ items (means l.self) (entries l.self) (map item_of (drop l.item-index l.items)) ≡ items (means l.self) (entries l.self) (map item_of l.items)
