use Rattle.unifier_definition.proofs.Contracts.{answer_unifies}
use Rattle.unifier_definition.proofs.answer_unifies.Goals as goal

pub returns : goal.returns
returns c = answer_unifies
