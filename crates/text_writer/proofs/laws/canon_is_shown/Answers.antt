use Rattle.text_writer.proofs.TreeLaws.{canon-shown}
use Rattle.text_writer.proofs.laws.canon_is_shown.Goals as goal

pub returns : goal.returns
returns c = canon-shown c.canonical_is_node.ensures
