-- Desks, and workers that have drawn nothing.
use Rattle.std.specs.Prelude.{◌≡◌, ℕ, ◌≤◌, false, [], vec_capacity}
use Rattle.claim_board.specs.declared.board.Board.{Board}
use Rattle.claim_board.specs.Views.{view, none_noted}
use Rattle.claim_board.specs.Seats.{Belongs, view_of, jobs_of}
use Rattle.worker_map.specs.declared.work.Worker.{Worker}
use Rattle.worker_map.specs.declared.desk.Desk.{Desk}

-- a worker that has drawn nothing
pub record IsNew (board : Board) (w : Worker) : Type 0 where
  pub own : Belongs board w.seat
  pub seat : view_of w.seat ≡ view (jobs_of board) [] [] false 1 [] none_noted
  pub drawn : w.drawn.items ≡ []
  pub verdicts : w.verdicts.items ≡ []
  pub room : jobs_of board ≤ vec_capacity w.drawn
  pub verdict_room : jobs_of board ≤ vec_capacity w.verdicts

-- nothing lies on the desk, and there is room for all jobs
pub record IsEmpty (jobs : ℕ) (d : Desk) : Type 0 where
  pub drawn : d.drawn.items ≡ []
  pub verdicts : d.verdicts.items ≡ []
  pub room : jobs ≤ vec_capacity d.drawn
  pub verdict_room : jobs ≤ vec_capacity d.verdicts
