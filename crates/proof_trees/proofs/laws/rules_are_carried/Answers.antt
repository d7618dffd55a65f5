use Rattle.proof_trees.proofs.Carried.{rules_are_carried}
use Rattle.proof_trees.proofs.laws.rules_are_carried.Goals as goal

pub returns : goal.returns
returns c = rules_are_carried
