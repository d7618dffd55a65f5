use Rattle.layout_parser.proofs.Ends.{inside}
use Rattle.layout_parser.proofs.laws.inside_the_region.Goals as goal

pub returns : goal.returns
returns c = inside c.one_right_tree.ensures
