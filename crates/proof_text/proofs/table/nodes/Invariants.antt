use Rattle.std.proofs.Common.{◌-◌}
use Rattle.proof_text.specs.Readers.{node, nodes, one_more}
use Rattle.proof_text.proofs.ReadLaws.{Going}
use Rattle.proof_text.proofs.table.nodes.Given as goal

abbrev pub invariant-loop-i : goal.invariant-loop-i
invariant-loop-i l = Going node one_more (nodes l.count l.fn.cursor) l.items.items (l.count - l.i) l.i l.cursor
