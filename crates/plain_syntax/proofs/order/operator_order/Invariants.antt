use Rattle.std.proofs.Common.{◌≡◌, ◌++◌, reverse, length}
use Rattle.std.specs.List.{flat_map}
use Rattle.tla_ast.specs.declared.tree.Node.{size-Node}
use Rattle.plain_syntax.specs.Syntax.{term_of}
use Rattle.plain_syntax.specs.Order.{order}
use Rattle.plain_syntax.proofs.Operators.{stacked}
use Rattle.plain_syntax.proofs.Depth.{Within}
use Rattle.plain_syntax.proofs.order.operator_order.Given as goal

abbrev pub invariant-loop-node : goal.invariant-loop-node
invariant-loop-node l = record {
  ordered : order (term_of l.root) ≡ flat_map order (stacked l.stack.items) ++ stacked (reverse l.found.items);
  stack : Within (size-Node l.root) l.stack.items;
  found : Within (size-Node l.root) l.found.items;
}

abbrev pub decreases-loop-node : goal.decreases-loop-node
decreases-loop-node l = length (flat_map order (stacked l.stack.items))
