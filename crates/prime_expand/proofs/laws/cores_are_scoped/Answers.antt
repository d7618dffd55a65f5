use Rattle.prime_expand.proofs.CoreFine.{core_is_closed, bodies_are_scoped}
use Rattle.prime_expand.proofs.laws.cores_are_scoped.Goals as goal

pub returns-clause-expression : goal.returns-clause-expression
returns-clause-expression c = core_is_closed

pub returns-clause-bodies : goal.returns-clause-bodies
returns-clause-bodies c = bodies_are_scoped
