use Rattle.operator_chain.proofs.FlatLaws.{one_tree}
use Rattle.operator_chain.proofs.chain.one_right_tree.Goals as goal

pub returns : goal.returns
returns c = one_tree
