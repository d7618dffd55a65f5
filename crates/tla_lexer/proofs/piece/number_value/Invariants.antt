use Rattle.std.proofs.Common.{◌≡◌, ◌<◌, ◌^◌, take}
use Rattle.tla_lexer.specs.Pieces.{value_of}
use Rattle.tla_lexer.proofs.piece.number_value.Given as goal

abbrev pub invariant-loop-b : goal.invariant-loop-b
invariant-loop-b l = (l.value ≡ value_of (take l.b-index l.run)) × (l.value < 2 ^ 128)
