use Rattle.std.proofs.Common.{◌≡◌, ◌-◌, ◌+◌, ◌≤◌, length, vec_len}
use Rattle.std.specs.Prelude.{vec_capacity}
use Rattle.std.specs.List.{AllByRecursion}
use Rattle.claim_board.specs.Seats.{Belongs, view_of, jobs_of}
use Rattle.worker_map.specs.Crew.{with_room}
use Rattle.worker_map.specs.Desks.{IsNew, IsEmpty}
use Rattle.worker_map.proofs.desk.hire.Given as goal

abbrev pub invariant-loop-desk : goal.invariant-loop-desk
invariant-loop-desk l = record {
  own : Belongs l.board l.seat;
  seat : view_of l.seat ≡ with_room (view_of l.initial.seat) ((view_of l.initial.seat).room - length l.workers.items);
  count : length l.workers.items + length l.desks.items ≡ length l.initial.desks.items;
  room : length l.initial.desks.items ≤ vec_capacity l.workers;
  made : AllByRecursion (IsNew l.board) l.workers.items;
  empty : AllByRecursion (IsEmpty (jobs_of l.board)) l.desks.items;
}

abbrev pub decreases-loop-desk : goal.decreases-loop-desk
decreases-loop-desk l = vec_len l.desks
