use Rattle.std.proofs.Common.{◌≡◌, ◌∷◌, length, IsTrue, take}
use Rattle.core_expr.specs.Heads.{are_bytes}
use Rattle.core_expr.proofs.construct.text_numbers.Given as goal

abbrev pub invariant-loop-byte : goal.invariant-loop-byte
invariant-loop-byte l = (l.numbers ≡ length l.bytes ∷ take l.byte-index l.bytes) × IsTrue (are_bytes (take l.byte-index l.bytes))
