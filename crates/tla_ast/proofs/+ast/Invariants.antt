use Rattle.tla_ast.proofs.Light.{Light, AreLight}
use Rattle.tla_ast.proofs.tree.Node.TheLaws as node
use Rattle.tla_ast.proofs.+ast.Given as goal

abbrev pub invariant-tree::Node::drop-loop : goal.invariant-tree::Node::drop-loop
invariant-tree::Node::drop-loop l = Light (node.the_size l.fn.self) l.hand × AreLight (node.the_size l.fn.self) l.rest
