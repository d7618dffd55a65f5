use Rattle.std.proofs.Common.{◌≡◌, ◌+◌, ◌≤◌, length, vec_len}
use Rattle.std.specs.Prelude.{vec_capacity}
use Rattle.std.specs.List.{AllByRecursion}
use Rattle.worker_map.specs.Collected.{Collected, IsDone}
use Rattle.worker_map.proofs.collect.collect.Given as goal

abbrev pub invariant-loop-worker : goal.invariant-loop-worker
invariant-loop-worker g l = record {
  all : Collected l.stop (g.A.Answers.right l.answers) l.board (length l.workers.items) l.seat l.all;
  left : AllByRecursion (IsDone l.stop (g.A.Answers.right l.answers) l.board) l.workers.items;
  count : length l.all.drawn.items + length l.workers.items ≡ length l.initial.all.drawn.items + length l.initial.workers.items;
  room : length l.all.drawn.items + length l.workers.items ≤ vec_capacity l.all.drawn;
  verdict_room : length l.all.verdicts.items + length l.workers.items ≤ vec_capacity l.all.verdicts;
}

abbrev pub decreases-loop-worker : goal.decreases-loop-worker
decreases-loop-worker g l = vec_len l.workers
