use Rattle.std.proofs.Common.{◌-◌, length}
use Rattle.claim_board.specs.Seats.{jobs_of}
use Rattle.worker_map.specs.Crew.{HasDone, GoesOn}
use Rattle.worker_map.proofs.work.work.Given as goal

abbrev pub invariant-loop : goal.invariant-loop
invariant-loop g l = record {
  done : HasDone l.stop (g.A.Answers.right l.answers) l.board l.w;
  same : GoesOn l.initial.w l.w;
}

abbrev pub decreases-loop : goal.decreases-loop
decreases-loop g l = jobs_of l.board - length l.w.drawn.items
