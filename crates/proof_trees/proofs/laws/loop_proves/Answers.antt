use Rattle.proof_trees.proofs.Whole.{loop-proves}
use Rattle.proof_trees.proofs.laws.loop_proves.Goals as goal

pub returns : goal.returns
returns c = loop-proves c.used_stands.ensures
