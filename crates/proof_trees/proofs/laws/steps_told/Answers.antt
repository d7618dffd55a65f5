use Rattle.proof_trees.proofs.Whole.{steps_told}
use Rattle.proof_trees.proofs.laws.steps_told.Goals as goal

pub returns : goal.returns
returns c = steps_told
