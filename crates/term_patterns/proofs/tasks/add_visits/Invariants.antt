use Rattle.std.proofs.Common.{◌≡◌, ◌++◌, take, map}
use Rattle.term_patterns.specs.declared.tasks.Task.TheVariants.{Visit}
use Rattle.term_patterns.proofs.tasks.add_visits.Given as goal

abbrev pub invariant-loop-spot : goal.invariant-loop-spot
invariant-loop-spot l = l.tasks.items ≡ l.fn.tasks.items ++ map Visit (take l.spot-index l.spots)
