use Rattle.std.proofs.Common.{◌<◌, ◌∙◌, ap, arith, length}
use Rattle.worker_map.proofs.Finish.{alone, cut, fits, noted, pending}
use Rattle.worker_map.proofs.run.run_numbers.Goals as goal

pub fill-requires-clause-fits : goal.fill-requires-clause-fits
fill-requires-clause-fits g c κs within =
    let crew = c.run_all.ensures.len ∙ c.hire-crew.ensures.made.0 ∙ c.in_ok-desks.ensures.0 in
    let most = c.requires.workers.0 in
    let len = c.collect-drawn.ensures.len in
    let some : 0 < length c.collect-drawn.result.drawn.items = omega arith in
    fits c.args.stop (g.A.Answers.right c.args.answers.now) c.args.board.now c.collect-drawn.new.seat c.args.jobs c.collect-drawn.result c.requires.jobs.0 some c.collect-drawn.ensures.all
    (length c.in_ok-table.table.items) c.in_ok-table.ensures

pub fill-requires-clause-table : goal.fill-requires-clause-table
fill-requires-clause-table g c κs within =
    let crew = c.run_all.ensures.len ∙ c.hire-crew.ensures.made.0 ∙ c.in_ok-desks.ensures.0 in
    let most = c.requires.workers.0 in
    let len = c.collect-drawn.ensures.len in
    let some : 0 < length c.collect-drawn.result.drawn.items = omega arith in
    pending c.args.stop (g.A.Answers.right c.args.answers.now) c.args.board.now c.collect-drawn.new.seat c.args.jobs c.collect-drawn.result c.requires.jobs.0 some c.collect-drawn.ensures.all
    c.in_ok-table.table.items c.in_ok-table.ensures

pub returns-clause-cut : goal.returns-clause-cut
returns-clause-cut g c =
    let crew = c.run_all.ensures.len ∙ c.hire-crew.ensures.made.0 ∙ c.in_ok-desks.ensures.0 in
    let most = c.requires.workers.0 in
    let len = c.collect-drawn.ensures.len in
    let some : 0 < length c.collect-drawn.result.drawn.items = omega arith in
    cut c.args.stop (g.A.Answers.right c.args.answers.now) c.args.board.now c.collect-drawn.new.seat c.args.jobs c.collect-drawn.result c.requires.jobs.0 some c.collect-drawn.ensures.all
    c.fill.new.table.items (c.fill.ensures.len ∙ c.in_ok-table.ensures) c.requires.jobs.1 c.fill.ensures.table

pub returns-clause-noted : goal.returns-clause-noted
returns-clause-noted g c =
    let crew = c.run_all.ensures.len ∙ c.hire-crew.ensures.made.0 ∙ c.in_ok-desks.ensures.0 in
    let most = c.requires.workers.0 in
    let len = c.collect-drawn.ensures.len in
    let some : 0 < length c.collect-drawn.result.drawn.items = omega arith in
    noted c.args.stop (g.A.Answers.right c.args.answers.now) c.args.board.now c.collect-drawn.new.seat c.args.jobs c.collect-drawn.result c.requires.jobs.0 some c.collect-drawn.ensures.all
    c.fill.new.table.items (c.fill.ensures.len ∙ c.in_ok-table.ensures) c.fill.ensures.table

pub returns-clause-alone : goal.returns-clause-alone
returns-clause-alone g c one =
    let crew = c.run_all.ensures.len ∙ c.hire-crew.ensures.made.0 ∙ c.in_ok-desks.ensures.0 in
    let most = c.requires.workers.0 in
    let len = c.collect-drawn.ensures.len in
    let some : 0 < length c.collect-drawn.result.drawn.items = omega arith in
    alone c.args.stop (g.A.Answers.right c.args.answers.now) c.args.board.now c.collect-drawn.new.seat c.args.jobs c.collect-drawn.result c.requires.jobs.0 some c.collect-drawn.ensures.all
    c.fill.new.table.items c.fill.ensures.table (let none = ap length c.in_ok-drawn.ensures.items in omega arith)
