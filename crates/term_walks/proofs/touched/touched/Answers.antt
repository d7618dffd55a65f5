use Rattle.term_bank.proofs.MarkLaws.{lower_all, is_last}
use Rattle.term_walks.proofs.WalkLaws.{walk_first, walk_turn, lower}
use Rattle.term_walks.proofs.touched.touched.Goals as goal

pub loop-i-init : goal.loop-i-init
loop-i-init c = walk_first c.args.bank.now c.args.images.now.entries c.args.e c.new-done.result.items c.new-todo.result.keys c.put.new.todo.keys c.new-done.ensures.items c.new-todo.ensures.empty c.requires c.in_ok-put.ensures

pub add_open-requires : goal.add_open-requires
add_open-requires c = c.loop-i.invariant.within c.in-Some.i (is_last c.in-Some.i c.loop-i.todo.keys c.pop_last.new.self.keys c.in-Some.ensures.removal)

pub loop-i-smaller : goal.loop-i-smaller
loop-i-smaller c = lower c.in-Some.i c.loop-i.todo.keys c.pop_last.new.self.keys c.add_open.new.todo.keys c.in-Some.ensures.removal (lower_all c.in-Some.i c.pop_last.new.self.keys c.in-Some.ensures.all_below) c.in_ok-add_open.ensures.only

pub loop-i-preserved : goal.loop-i-preserved
loop-i-preserved c = walk_turn c.args.bank.now c.args.images.now.entries c.args.e c.in-Some.i c.loop-i.done.items c.push.new.self.items c.loop-i.todo.keys c.pop_last.new.self.keys c.add_open.new.todo.keys c.in_ok-push.ensures.items c.in-Some.ensures.removal c.in_ok-add_open.ensures c.loop-i.invariant
