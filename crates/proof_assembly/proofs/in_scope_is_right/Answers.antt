use Rattle.proof_assembly.proofs.Items.{in_scope_right}
use Rattle.proof_assembly.proofs.in_scope_is_right.Goals as goal

pub returns : goal.returns
returns c = in_scope_right
