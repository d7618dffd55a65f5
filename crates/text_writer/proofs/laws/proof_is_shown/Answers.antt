use Rattle.text_writer.proofs.MadeLaws.{proof-shown}
use Rattle.text_writer.proofs.laws.proof_is_shown.Goals as goal

pub returns : goal.returns
returns c = proof-shown c.canonical_is_node.ensures c.node_is_canonical.ensures
