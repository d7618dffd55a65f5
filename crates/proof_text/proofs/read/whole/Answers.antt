use Rattle.std.proofs.Common.{arith}
use Rattle.proof_text.specs.Given.{given_of}
use Rattle.proof_text.proofs.WholeFormats.{obligation_whole, obligation_more, obligation_bad}
use Rattle.proof_text.proofs.read.whole.Goals as goal

pub returns-then-left-gt0-clause-bad : goal.returns-then-left-gt0-clause-bad
returns-then-left-gt0-clause-bad c =
    rw c.text_fault-then-left-gt0.ensures (obligation_more _ _ (given_of c.in-Ok.given) c.obligation.new.cursor c.left-left.result c.new-cursor.ensures c.in-Ok.ensures c.left-left.ensures c.if-left-gt0.true)

pub returns-in-Err-clause-bad : goal.returns-in-Err-clause-bad
returns-in-Err-clause-bad c = rw c.text_fault.ensures (obligation_bad _ _ c.in-Err.fault c.new-cursor.ensures c.in-Err.ensures)

pub returns-else-left-gt0-clause-read : goal.returns-else-left-gt0-clause-read
returns-else-left-gt0-clause-read c =
    obligation_whole _ _ (given_of c.in-Ok.given) c.obligation.new.cursor c.new-cursor.ensures c.in-Ok.ensures (omega (arith, c.left-left.ensures, c.if-left-gt0.false))
