use Rattle.std.proofs.Common.{◌≡◌, take, map}
use Rattle.term_walks.specs.Walks.{image_at}
use Rattle.term_walks.proofs.putting_in.new_parts.Given as goal

abbrev pub invariant-loop-part : goal.invariant-loop-part
invariant-loop-part l = l.moved.items ≡ map (image_at l.images.entries) (take l.part-index l.parts)
