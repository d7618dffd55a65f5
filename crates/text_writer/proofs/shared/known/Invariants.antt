use Rattle.std.proofs.Common.{take}
use Rattle.text_writer.specs.Shared.{ArePlaces}
use Rattle.text_writer.proofs.shared.known.Given as goal

abbrev pub invariant-loop-part : goal.invariant-loop-part
invariant-loop-part l = ArePlaces l.places (take l.part-index l.parts) l.found
