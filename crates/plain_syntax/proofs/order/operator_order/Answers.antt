use Rattle.tla_ast.specs.declared.tree.Node.{size-Node}
use Rattle.plain_syntax.proofs.Operators.{order-step, order-smaller}
use Rattle.plain_syntax.proofs.Depth.{within-step, within-more, all-within}
use Rattle.plain_syntax.proofs.order.operator_order.Goals as goal

pub loop-node-smaller : goal.loop-node-smaller
loop-node-smaller c = order-smaller c.loop-node.stack.items c.pop.new.self.items c.add_operands.new.stack.items c.in-Some.node c.in-Some.ensures.items c.in_ok-add_operands.ensures

pub loop-node-preserved : goal.loop-node-preserved
loop-node-preserved c =
    let inv = c.loop-node.invariant in
    let step = within-step (size-Node c.args.root.now) c.loop-node.stack.items c.pop.new.self.items c.add_operands.new.stack.items c.in-Some.node inv.stack c.in-Some.ensures.items c.in_ok-add_operands.ensures in
    record {
      ordered = order-step _ c.loop-node.stack.items c.pop.new.self.items c.add_operands.new.stack.items c.loop-node.found.items c.push-in-Some.new.self.items c.in-Some.node
          inv.ordered c.in-Some.ensures.items c.in_ok-add_operands.ensures c.in_ok-push-2.ensures.items;
      stack = step.1;
      found = within-more _ c.loop-node.found.items c.push-in-Some.new.self.items c.in-Some.node inv.found (step.0) c.in_ok-push-2.ensures.items;
    }

pub returns-clause-no_deeper : goal.returns-clause-no_deeper
returns-clause-no_deeper c = all-within _ c.loop-node.found.items c.reverse.new.self.items c.loop-node.invariant.found c.reverse.ensures.items
