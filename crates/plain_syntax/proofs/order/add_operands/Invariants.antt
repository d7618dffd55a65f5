use Rattle.std.proofs.Common.{◌≡◌, ◌++◌, map, take}
use Rattle.tla_ast.specs.declared.tree.Node.{out-Node}
use Rattle.plain_syntax.proofs.order.add_operands.Given as goal

abbrev pub invariant-loop-part : goal.invariant-loop-part
invariant-loop-part l = map (λ n. n.now) l.stack.items ≡ map (λ n. n.now) l.fn.stack.items ++ take l.part-index (out-Node l.node).parts
