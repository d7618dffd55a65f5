use Rattle.proof_parser.proofs.Order.{spelt}
use Rattle.proof_parser.proofs.laws.read_in_order.Goals as goal

pub returns : goal.returns
returns c = spelt c.one_right_tree.ensures
