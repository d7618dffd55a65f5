use Rattle.term_bank.proofs.MarkLaws.{lower_all, is_last}
use Rattle.term_walks.proofs.WalkLaws.{sought_first, sought_turn, sought_found, lower, added_only}
use Rattle.term_walks.proofs.seeking.occurs.Goals as goal

pub loop-i-init : goal.loop-i-init
loop-i-init c = sought_first c.args.bank.now c.args.s c.args.e c.new-todo.result.keys c.put.new.todo.keys c.new-todo.ensures.empty c.requires.start c.in_ok-put.ensures

pub returns-then-i-s : goal.returns-then-i-s
returns-then-i-s c = sought_found c.args.bank.now c.args.s c.args.e c.in-Some.i c.loop-i.todo.keys c.pop_last.new.self.keys c.if-i-s.true c.in-Some.ensures.removal c.loop-i.invariant

pub add_node-requires : goal.add_node-requires
add_node-requires c = c.loop-i.invariant.within c.in-Some.i (is_last c.in-Some.i c.loop-i.todo.keys c.pop_last.new.self.keys c.in-Some.ensures.removal)

pub loop-i-smaller : goal.loop-i-smaller
loop-i-smaller c = lower c.in-Some.i c.loop-i.todo.keys c.pop_last.new.self.keys c.add_node.new.todo.keys c.in-Some.ensures.removal (lower_all c.in-Some.i c.pop_last.new.self.keys c.in-Some.ensures.all_below) (added_only c.args.bank.now c.in-Some.i c.pop_last.new.self.keys c.add_node.new.todo.keys c.in_ok-add_node.ensures)

pub loop-i-preserved : goal.loop-i-preserved
loop-i-preserved c = sought_turn c.args.bank.now c.args.s c.args.e c.in-Some.i c.loop-i.todo.keys c.pop_last.new.self.keys c.add_node.new.todo.keys c.count.ensures.distinct c.requires.term c.if-i-s.false c.in-Some.ensures.removal c.in_ok-add_node.ensures c.loop-i.invariant
