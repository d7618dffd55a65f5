use Rattle.core_expr.proofs.Proved.{canonical_is_node}
use Rattle.core_expr.proofs.theorems.canonical_is_node.Goals as goal

pub returns : goal.returns
returns c = canonical_is_node
