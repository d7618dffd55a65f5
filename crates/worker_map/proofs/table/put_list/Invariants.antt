use Rattle.std.proofs.Common.{◌≡◌, ◌+◌, length, vec_len}
use Rattle.std.specs.List.{AllByRecursion}
use Rattle.pool_core.specs.Numbers.{times, times_all}
use Rattle.claim_board.specs.Seats.{view_of}
use Rattle.worker_map.specs.Crew.{jobs_in}
use Rattle.worker_map.specs.Settled.{Pending, Fits, lists_of}
use Rattle.worker_map.proofs.table.put_list.Given as goal

abbrev pub invariant-loop-job : goal.invariant-loop-job
invariant-loop-job g l = record {
  len : length l.table.items ≡ length l.initial.table.items;
  fits : AllByRecursion (Fits l.stop (g.A.Answers.right l.answers) (view_of l.seat) (length l.table.items)) l.rest.items;
  table : Pending l.stop (g.A.Answers.right l.answers) (view_of l.seat) (λ x. times x (jobs_in l.rest.items) + times_all x (lists_of l.others.items)) l.table.items;
}

abbrev pub decreases-loop-job : goal.decreases-loop-job
decreases-loop-job g l = vec_len l.rest
