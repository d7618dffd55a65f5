use Rattle.text_writer.proofs.MadeLaws.{alike-same}
use Rattle.text_writer.proofs.laws.alike_if_same.Goals as goal

pub returns : goal.returns
returns c = alike-same c.canonical_is_node.ensures c.node_is_canonical.ensures c.proofs_differ.ensures
