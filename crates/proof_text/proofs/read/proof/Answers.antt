use Rattle.std.proofs.Common.{arith}
use Rattle.proof_text.proofs.WholeFormats.{proof_allowed}
use Rattle.proof_text.proofs.read.proof.Goals as goal

pub of-requires : goal.of-requires
of-requires c = proof_allowed _ _ _ _ _ _ c.in_ok-nodes.ensures (omega (arith, c.len.ensures, c.in_ok-nodes.nodes.ok)) c.in_ok-steps.ensures
