use Rattle.std.proofs.Common.{take}
use Rattle.sha2.specs.Hashers.{Holds256}
use Rattle.proof_text.specs.Key.{big_endian}
use Rattle.proof_text.proofs.digest.key.Given as goal

abbrev pub invariant-loop-number : goal.invariant-loop-number
invariant-loop-number l = Holds256 l.hasher (big_endian (take l.number-index l.list))
