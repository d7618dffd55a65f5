use Rattle.layout_parser.proofs.Ends.{in-order}
use Rattle.layout_parser.proofs.laws.read_in_order.Goals as goal

pub returns : goal.returns
returns c = in-order c.one_right_tree.ensures
