use Rattle.std.proofs.Common.{refl}
use Rattle.operator_chain.specs.Machine.{start}
use Rattle.operator_chain.proofs.stack.run.Goals as goal

pub loop-piece-init : goal.loop-piece-init
loop-piece-init c = (start, record { parts = c.new.ensures; last = c.plain.ensures; is_sound = refl; is_alive = refl; wrong = refl }, refl)
