use Rattle.term_bank.proofs.MarkLaws.{on_ok}
use Rattle.term_walks.proofs.WalkLaws.{turn_of}
use Rattle.term_walks.proofs.touched.add_open.Goals as goal

pub returns : goal.returns
returns c = on_ok c.add_node.result _ _ (turn_of c.args.bank.now c.args.images.now.entries c.args.i c.args.todo.now.keys c.add_node.new.todo.keys) c.add_node.ensures
