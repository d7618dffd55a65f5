use Rattle.proof_text.specs.Given.{given_of}
use Rattle.proof_text.proofs.FrameLaws.{canonical-canon}
use Rattle.proof_text.proofs.read.read_canon.Goals as goal

pub returns-clause-canonical : goal.returns-clause-canonical
returns-clause-canonical c =
    canonical-canon c.node_is_canonical.ensures (given_of c.in_ok-given.given) _ c.in_ok-given.ensures.read.0 c.in_ok-canon.ensures
