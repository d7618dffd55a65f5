use Rattle.std.proofs.Common.{◌≡◌, take, map}
use Rattle.branch_state.specs.Parts.{shown}
use Rattle.tableau_search.specs.Boards.{added_by}
use Rattle.tableau_search.proofs.turns.added_of.Given as goal

abbrev pub invariant-loop-new : goal.invariant-loop-new
invariant-loop-new l = l.added.items ≡ map (added_by (shown l.parts).now) (take l.new-index l.news)
