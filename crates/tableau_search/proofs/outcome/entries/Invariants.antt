use Rattle.std.proofs.Common.{◌≡◌, take, map}
use Rattle.branch_state.specs.Shown.{item_of}
use Rattle.branch_state.specs.Parts.{shown}
use Rattle.tableau_search.proofs.outcome.entries.Given as goal

abbrev pub invariant-loop-i : goal.invariant-loop-i
invariant-loop-i l = l.items.items ≡ map item_of (take l.i (shown l.parts).now)
