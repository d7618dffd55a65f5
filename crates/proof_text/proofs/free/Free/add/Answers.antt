use Rattle.std.proofs.Common.{arith}
use Rattle.proof_text.proofs.FreeLaws.{count_step, count-length}
use Rattle.proof_text.proofs.free.Free.add.Goals as goal

pub overflow_add-self : goal.overflow_add-self
overflow_add-self c = omega (arith, count_step _ _ _ c.self.invariant c.in_ok-push.ensures.ok, count-length c.push.new.self, c.len-steps.ensures, c.len-steps.type_inv)

pub invariant_of-self-2 : goal.invariant_of-self-2
invariant_of-self-2 c = count_step _ _ _ c.self.invariant c.in_ok-push.ensures.ok
