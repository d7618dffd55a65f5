use Rattle.std.proofs.Common.{◌∙◌, arith}
use Rattle.worker_map.proofs.Settles.{none_lists, last_list}
use Rattle.worker_map.proofs.table.fill.Goals as goal

pub put_list-requires-clause-table : goal.put_list-requires-clause-table
put_list-requires-clause-table g c κs within j v at none =
    c.loop-list.invariant.table j v at (last_list j c.loop-list.rest.items c.pop.new.self.items c.in-Some.list c.in-Some.ensures.items ∙ none)

pub returns-clause-table : goal.returns-clause-table
returns-clause-table g c j v at none =
    let empty = c.in_default.ensures.cases.0 in
    c.loop-list.invariant.table j v at (none_lists j c.loop-list.rest.items (omega arith))
