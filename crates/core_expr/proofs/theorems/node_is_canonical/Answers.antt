use Rattle.core_expr.proofs.Proved.{node_is_canonical}
use Rattle.core_expr.proofs.theorems.node_is_canonical.Goals as goal

pub returns : goal.returns
returns c = node_is_canonical
