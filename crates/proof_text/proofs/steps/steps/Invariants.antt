use Rattle.std.proofs.Common.{◌-◌}
use Rattle.proof_text.specs.Readers.{step, steps, next_free}
use Rattle.proof_text.proofs.ReadLaws.{Going}
use Rattle.proof_text.proofs.steps.steps.Given as goal

abbrev pub invariant-loop-i : goal.invariant-loop-i
invariant-loop-i l = Going (step l.nodes) next_free (steps l.nodes l.count l.fn.cursor) l.items.items (l.count - l.i) l.free l.cursor
