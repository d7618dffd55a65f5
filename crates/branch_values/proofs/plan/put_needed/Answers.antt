use Rattle.branch_values.proofs.Planning.{on_work}
use Rattle.branch_values.proofs.plan.put_needed.Goals as goal

pub returns-in-Linked : goal.returns-in-Linked
returns-in-Linked c = on_work c.put_parts.result c.args.todo.now.keys c.put_parts.new.todo.keys c.args.work c.in-Linked.link c.in-Linked.is c.put_parts.ensures
