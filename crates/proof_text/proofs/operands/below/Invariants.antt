use Rattle.std.proofs.Common.{◌-◌}
use Rattle.proof_text.specs.Readers.{below, passes, keep}
use Rattle.proof_text.specs.Reading.{number}
use Rattle.proof_text.specs.declared.cursor.Test.TheVariants.{Below}
use Rattle.proof_text.proofs.ReadLaws.{Going}
use Rattle.proof_text.proofs.operands.below.Given as goal

abbrev pub invariant-loop-i : goal.invariant-loop-i
invariant-loop-i l = Going (λ k. number (passes (Below k))) keep (below l.count l.bound l.fn.cursor) l.items (l.count - l.i) l.bound l.cursor
