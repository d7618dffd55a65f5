use Rattle.std.proofs.Common.{◌≡◌, length, vec_len}
use Rattle.std.specs.List.{AllByRecursion}
use Rattle.pool_core.specs.Numbers.{times_all}
use Rattle.claim_board.specs.Seats.{view_of}
use Rattle.worker_map.specs.Settled.{Pending, FitsAll, lists_of}
use Rattle.worker_map.proofs.table.fill.Given as goal

abbrev pub invariant-loop-list : goal.invariant-loop-list
invariant-loop-list g l = record {
  len : length l.table.items ≡ length l.initial.table.items;
  fits : AllByRecursion (FitsAll l.stop (g.A.Answers.right l.answers) (view_of l.seat) (length l.table.items)) l.rest.items;
  table : Pending l.stop (g.A.Answers.right l.answers) (view_of l.seat) (λ x. times_all x (lists_of l.rest.items)) l.table.items;
}

abbrev pub decreases-loop-list : goal.decreases-loop-list
decreases-loop-list g l = vec_len l.rest
