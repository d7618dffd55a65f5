use Rattle.proof_assembly.proofs.Fitting.{names_are_fine, bodies_are_fine, numbers_grow}
use Rattle.proof_assembly.proofs.names_are_fine.Goals as goal

pub returns-clause-grows : goal.returns-clause-grows
returns-clause-grows c = numbers_grow

pub returns-clause-expression : goal.returns-clause-expression
returns-clause-expression c = names_are_fine

pub returns-clause-body : goal.returns-clause-body
returns-clause-body c = bodies_are_fine
