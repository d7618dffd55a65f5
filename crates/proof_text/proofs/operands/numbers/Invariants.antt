use Rattle.std.proofs.Common.{◌-◌}
use Rattle.proof_text.specs.Readers.{numbers, number_test, passes, fewer}
use Rattle.proof_text.specs.Reading.{number}
use Rattle.proof_text.proofs.ReadLaws.{Going}
use Rattle.proof_text.proofs.operands.numbers.Given as goal

abbrev pub invariant-loop-i : goal.invariant-loop-i
invariant-loop-i l = Going (λ left. number (passes (number_test l.tail l.nodes left))) fewer (numbers l.tail l.nodes l.count l.fn.cursor) l.items (l.count - l.i) (l.count - l.i) l.cursor
