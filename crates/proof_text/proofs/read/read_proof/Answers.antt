use Rattle.std.proofs.Common.{arith}
use Rattle.proof_text.proofs.WholeFormats.{proof_whole, proof_more, proof_bad}
use Rattle.proof_text.proofs.read.read_proof.Goals as goal

pub returns-then-left-gt0-clause-bad : goal.returns-then-left-gt0-clause-bad
returns-then-left-gt0-clause-bad c =
    rw c.text_fault-then-left-gt0.ensures (proof_more _ _ c.in-Ok.proof c.proof.new.cursor c.left-left.result c.new-cursor.ensures c.in-Ok.ensures c.left-left.ensures c.if-left-gt0.true)

pub returns-in-Err-clause-bad : goal.returns-in-Err-clause-bad
returns-in-Err-clause-bad c = rw c.text_fault.ensures (proof_bad _ _ c.in-Err.fault c.new-cursor.ensures c.in-Err.ensures)

pub returns-else-left-gt0-clause-read : goal.returns-else-left-gt0-clause-read
returns-else-left-gt0-clause-read c = (proof_whole _ _ c.in-Ok.proof c.proof.new.cursor c.new-cursor.ensures c.in-Ok.ensures (omega (arith, c.left-left.ensures, c.if-left-gt0.false))).1
