use Rattle.proof_assembly.proofs.Fitting.{cores_are_in_scope, bodies_are_in_scope}
use Rattle.proof_assembly.proofs.cores_are_in_scope.Goals as goal

pub returns-clause-expression : goal.returns-clause-expression
returns-clause-expression c = cores_are_in_scope

pub returns-clause-bodies : goal.returns-clause-bodies
returns-clause-bodies c = bodies_are_in_scope
