use Rattle.term_bank.proofs.MarkLaws.{inserted}
use Rattle.branch_values.proofs.plan.put.Goals as goal

pub returns : goal.returns
returns c = inserted c.args.todo.now.keys c.insert.new.self.keys c.args.index c.in_ok-insert.ensures.keys
