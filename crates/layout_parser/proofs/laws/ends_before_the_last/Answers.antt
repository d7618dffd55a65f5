use Rattle.layout_parser.proofs.Ends.{before-last}
use Rattle.layout_parser.proofs.laws.ends_before_the_last.Goals as goal

pub returns : goal.returns
returns c = before-last c.one_right_tree.ensures
