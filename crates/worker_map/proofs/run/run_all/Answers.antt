use Rattle.std.proofs.Common.{◌∙◌, sym, subst, length, drop, List}
use Rattle.std.specs.List.{AllByRecursion}
use Rattle.worker_map.specs.declared.work.Worker.{Worker}
use Rattle.worker_map.specs.Crew.{Finishes}
use Rattle.worker_map.specs.Desks.{IsNew}
use Rattle.worker_map.specs.Collected.{IsDone}
use Rattle.worker_map.proofs.Finish.{all_done, take_front}
use Rattle.std.proofs.lemmas.List.Elements.{length_all_zip}
use Rattle.worker_map.proofs.run.run_all.Goals as goal

pub returns-clause-each : goal.returns-clause-each
returns-clause-each g c =
    let answers = g.A.Answers.right c.args.answers.now in
    let stop = c.args.stop in
    let board = c.args.board.now in
    let old : List Worker = c.as_mut_slice.result.now in
    let new : List Worker = c.work_all.new.workers in
    let fresh = subst (AllByRecursion (IsNew board)) (sym c.as_mut_slice.ensures.value) c.requires.new in
    let done = all_done stop answers board old new fresh c.work_all.ensures in
    let len = sym (length_all_zip (Finishes stop answers board) old new c.work_all.ensures) ∙ c.as_mut_slice.ensures.len in
    subst (AllByRecursion (IsDone stop answers board)) (sym (take_front c.args.workers.now.len new (drop (length new) c.args.workers.now.items) len)) done
