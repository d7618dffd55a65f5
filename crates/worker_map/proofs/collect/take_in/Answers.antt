use Rattle.worker_map.specs.declared.collect.Lists.{Lists}
use Rattle.worker_map.proofs.Joins.{taken_in}
use Rattle.worker_map.proofs.collect.take_in.Goals as goal

pub returns-clause-all : goal.returns-clause-all
returns-clause-all g c =
    let more : Lists = record { drawn = c.push_reserved.new.self; verdicts = c.push_reserved-2.new.self } in
    taken_in c.args._stop (g.A.Answers.right c.args._answers.now) c.args.board.now c.args.left c.args.seat.now c.join.new.seat c.args.worker c.args.all.now more
    c.requires.all c.requires.worker c.join.ensures.seat c.join.ensures.both c.join.ensures.whole c.join.ensures.seen c.push_reserved.ensures.items c.push_reserved-2.ensures.items
