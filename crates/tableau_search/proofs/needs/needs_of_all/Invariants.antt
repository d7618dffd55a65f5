use Rattle.std.proofs.Common.{◌≡◌, ◌≤◌, length, drop}
use Rattle.branch_state.specs.Parts.{shown}
use Rattle.branch_state.specs.Shown.{Falls}
use Rattle.tableau_search.specs.Entries.{needs_of_all}
use Rattle.tableau_search.proofs.needs.needs_of_all.Given as goal

abbrev pub invariant-loop-left : goal.invariant-loop-left
invariant-loop-left l = record { within : l.left ≤ length l.named; needs : l.needs.items ≡ needs_of_all (shown l.parts).now (drop l.left l.named); falls : Falls l.needs.items }

abbrev pub decreases-loop-left : goal.decreases-loop-left
decreases-loop-left l = l.left
