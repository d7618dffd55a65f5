use Rattle.layout_parser.proofs.Ends.{at-place}
use Rattle.layout_parser.proofs.laws.end_is_the_place.Goals as goal

pub returns : goal.returns
returns c = at-place c.one_right_tree.ensures
