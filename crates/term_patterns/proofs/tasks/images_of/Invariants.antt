use Rattle.std.proofs.Common.{◌≡◌, take, map}
use Rattle.term_patterns.specs.Walked.{image_or}
use Rattle.term_patterns.proofs.tasks.images_of.Given as goal

abbrev pub invariant-loop-spot : goal.invariant-loop-spot
invariant-loop-spot l = l.numbers.items ≡ map (image_or l.images) (take l.spot-index l.spots)
