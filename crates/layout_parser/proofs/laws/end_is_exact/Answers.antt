use Rattle.layout_parser.proofs.Ends.{exact}
use Rattle.layout_parser.proofs.laws.end_is_exact.Goals as goal

pub returns : goal.returns
returns c = exact c.one_right_tree.ensures
