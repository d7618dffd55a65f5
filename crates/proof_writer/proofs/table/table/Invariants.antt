use Rattle.std.proofs.Common.{}
use Rattle.proof_writer.proofs.TableLaws.{IsTable}
use Rattle.proof_writer.proofs.table.table.Given as goal

abbrev pub invariant-loop-i : goal.invariant-loop-i
invariant-loop-i l = IsTable l.nodes.items l.bank l.i
