use Rattle.branch_values.specs.declared.link.Link.TheVariants.{Denied, Joined}
use Rattle.branch_values.proofs.Planning.{one_put, two_put, on_link}
use Rattle.branch_values.proofs.plan.put_parts.Goals as goal

pub returns-in-Denied : goal.returns-in-Denied
returns-in-Denied c =
    on_link c.put.result c.args.todo.now.keys c.put.new.todo.keys c.args.link (Denied c.in-Denied.a) c.in-Denied.is
    (one_put c.put.result c.args.todo.now.keys c.put.new.todo.keys c.in-Denied.a c.put.ensures)

pub returns-in_ok-put-in-Joined : goal.returns-in_ok-put-in-Joined
returns-in_ok-put-in-Joined c =
    on_link c.put-in-Joined-2.result c.args.todo.now.keys c.put-in-Joined-2.new.todo.keys c.args.link (Joined c.in-Joined.field-0 c.in-Joined.a c.in-Joined.b) c.in-Joined.is
    (two_put c.put-in-Joined-2.result c.args.todo.now.keys c.put-in-Joined.new.todo.keys c.put-in-Joined-2.new.todo.keys c.in-Joined.a c.in-Joined.b c.in_ok-put-in-Joined.ensures c.put-in-Joined-2.ensures)
