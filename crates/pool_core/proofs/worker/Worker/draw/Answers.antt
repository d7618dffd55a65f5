use Rattle.std.proofs.Common.{refl, arith}
use Rattle.pool_core.proofs.Moving.{takes}
use Rattle.pool_core.proofs.worker.Worker.draw.Goals as goal

pub returns-then-next-jobs : goal.returns-then-next-jobs
returns-then-next-jobs c = takes _ _ _ _ c.requires (grind arith) c.push_reserved.ensures.items c.push_reserved.ensures.capacity refl refl refl
