use Rattle.std.proofs.Common.{◌≡◌, ◌≤◌, length, drop}
use Rattle.search_definition.specs.Instances.{places, by_count}
use Rattle.branch_state.specs.Parts.{shown}
use Rattle.tableau_search.specs.Entries.{branch_of}
use Rattle.instance_ranks.specs.Lives.{places_of, AreLive}
use Rattle.instance_ranks.proofs.live.by_count.Given as goal

abbrev pub invariant-loop-left : goal.invariant-loop-left
invariant-loop-left l = record {
  within : l.left ≤ length (shown l.parts).now;
  live : AreLive l.bank (shown l.parts).now l.list.items;
  sorted : places_of l.bank l.list.items ≡ by_count (places l.left (branch_of l.bank (drop l.left (shown l.parts).now)));
}

abbrev pub decreases-loop-left : goal.decreases-loop-left
decreases-loop-left l = l.left
