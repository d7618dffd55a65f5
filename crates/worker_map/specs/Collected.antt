-- What is collected from the workers, and what it comes to.
use Rattle.std.specs.Prelude.{◌≡◌, ℕ, ◌+◌, ◌<◌, ◌++◌, Bool, true, List, [], ◌∷◌, map, length, Option}
use Rattle.std.specs.List.{AllByRecursion}
use Rattle.std.specs.Global.{Vec}
use Rattle.pool_core.specs.Numbers.{IsRising}
use Rattle.claim_board.specs.declared.board.Board.{Board}
use Rattle.claim_board.specs.declared.board.BoardSeat.{BoardSeat}
use Rattle.claim_board.specs.Views.{all_rooms}
use Rattle.claim_board.specs.Board.{HoldsEachBelow, HasSeen}
use Rattle.claim_board.specs.Seats.{Belongs, view_of, jobs_of}
use Rattle.proof_cache.specs.declared.verdict.Verdict.{Verdict}
use Rattle.worker_map.specs.declared.work.Worker.{Worker}
use Rattle.worker_map.specs.declared.collect.Lists.{Lists}
use Rattle.worker_map.specs.Answers.{IsOf}
use Rattle.worker_map.specs.Crew.{HasDone, noted_of, IsBehind, SkipsAfter}
use Rattle.worker_map.specs.Settled.{lists_of}

abbrev pub shown : List (Vec ℕ) → List (List ℕ)
shown = map (λ v. v.items)

-- what the workers of these lists have noted
abbrev pub noted_all : Bool → List (Vec (ℕ × Option Verdict)) → List ℕ
noted_all stop [] = []
noted_all stop (l ∷ ls) = noted_of stop l.items ++ noted_all stop ls

-- a worker that has ended, with all that it drew
pub record IsDone (stop : Bool) (answers : ℕ → Verdict → Type 0) (board : Board) (w : Worker) : Type 0 where
  pub done : HasDone stop answers board w
  pub ended : (view_of w.seat).ended ≡ true
  pub room : (view_of w.seat).room ≡ 1
  pub taken : (view_of w.seat).taken ≡ []

-- what is collected from the workers, of whom so many are left
pub record Collected (stop : Bool) (answers : ℕ → Verdict → Type 0) (board : Board) (left : ℕ) (seat : BoardSeat) (all : Lists) : Type 0 where
  pub own : Belongs board seat
  pub mine : (view_of seat).mine ≡ []
  pub taken : (view_of seat).taken ≡ shown all.drawn.items
  pub jobs : lists_of all.verdicts.items ≡ shown all.drawn.items
  pub room : (view_of seat).room + left ≡ all_rooms
  pub ended : 0 < length all.drawn.items → (view_of seat).ended ≡ true
  pub rising : AllByRecursion IsRising (shown all.drawn.items)
  pub right : AllByRecursion (λ (l : Vec (ℕ × Option Verdict)). AllByRecursion (IsOf answers (jobs_of board)) l.items) all.verdicts.items
  pub noted : (view_of seat).noted ≡ noted_all stop all.verdicts.items
  pub skipped : AllByRecursion (λ (l : Vec (ℕ × Option Verdict)). AllByRecursion (IsBehind stop (view_of seat).seen) l.items) all.verdicts.items
  pub stops : stop ≡ true → AllByRecursion (λ (l : Vec (ℕ × Option Verdict)). SkipsAfter l.items) all.verdicts.items
  pub whole : left ≡ 0 → 0 < length all.drawn.items → HoldsEachBelow (view_of seat) (jobs_of board)
  pub has_seen : left ≡ 0 → 0 < length all.drawn.items → HasSeen (view_of seat)
