-- What a worker is before and after its work.
use Rattle.std.specs.Prelude.{◌≡◌, ℕ, ◌<◌, ◌≤◌, Bool, true, false, List, [], ◌∷◌, map, length, vec_capacity, ◌++◌, Option, None, if◌then◌else◌}
use Rattle.std.specs.List.{AllByRecursion, flat_map}
use Rattle.claim_board.specs.declared.board.Board.{Board}
use Rattle.claim_board.specs.declared.view.View.{View}
use Rattle.claim_board.specs.Views.{IsRising, times, view}
use Rattle.claim_board.specs.Seats.{Belongs, view_of, jobs_of}
use Rattle.worker_map.specs.declared.work.Worker.{Worker}
use Rattle.proof_cache.specs.declared.verdict.Verdict.{Verdict}
use Rattle.worker_map.specs.Answers.{Given, IsOf, has_failed, noted_by}

-- the jobs of a list of verdicts
abbrev pub jobs_in : List (ℕ × Option Verdict) → List ℕ
jobs_in = map (λ (v : ℕ × Option Verdict). v.0)

-- the failed jobs of a list of verdicts, where failures are noted
abbrev pub noted_of : Bool → List (ℕ × Option Verdict) → List ℕ
noted_of true vs = flat_map noted_by vs
noted_of false vs = []

-- a job is skipped only where failures stop a run, behind one that was seen
abbrev pub IsBehind : Bool → ℕ → ℕ × Option Verdict → Type 0
IsBehind stop seen v = v.1 ≡ None → (stop ≡ true) × (seen < v.0)

-- behind a failed job of the list all are skipped
abbrev pub SkipsAfter : List (ℕ × Option Verdict) → Type 0
SkipsAfter [] = Unit {0}
SkipsAfter (v ∷ vs) = (has_failed v.1 ≡ true → AllByRecursion (λ (e : ℕ × Option Verdict). e.1 ≡ None) vs) × SkipsAfter vs

-- the seat has looked, and nothing else
abbrev pub OnlySees : View → View → Type 0
OnlySees old new = (new ≡ view old.jobs old.mine old.taken old.ended old.room old.noted new.seen) × (new.seen ≤ old.seen)

-- no number below n is in the list
abbrev pub NoneUnder : ℕ → List ℕ → Type 0
NoneUnder n ns = (k : ℕ) → k < n → times k ns ≡ 0

-- what comes of one drawn job
pub record Judges (stop : Bool) (answers : ℕ → Verdict → Type 0) (job : ℕ) (old new : View) (result : Option Verdict) : Type 0 where
  pub same : new ≡ view old.jobs old.mine old.taken old.ended old.room new.noted new.seen
  pub noted : new.noted ≡ old.noted ++ (if stop then noted_by (job, result) else [])
  pub seen : new.seen ≤ old.seen
  pub given : Given answers job result
  pub behind : IsBehind stop new.seen (job, result)
  pub skips : stop ≡ true → (k : ℕ) → k < job → 0 < times k old.noted → result ≡ None

-- what a worker has done is what its seat drew, in that order, each with a verdict
pub record HasDone (stop : Bool) (answers : ℕ → Verdict → Type 0) (board : Board) (w : Worker) : Type 0 where
  pub own : Belongs board w.seat
  pub drawn : w.drawn.items ≡ (view_of w.seat).mine
  pub same : length w.verdicts.items ≡ length w.drawn.items
  pub rising : IsRising w.drawn.items
  pub below : AllByRecursion (λ n. n < jobs_of board) w.drawn.items
  pub right : AllByRecursion (IsOf answers (jobs_of board)) w.verdicts.items
  pub jobs : jobs_in w.verdicts.items ≡ w.drawn.items
  pub noted : (view_of w.seat).noted ≡ noted_of stop w.verdicts.items
  pub skipped : AllByRecursion (IsBehind stop (view_of w.seat).seen) w.verdicts.items
  pub stops : stop ≡ true → SkipsAfter w.verdicts.items
  pub room : jobs_of board ≤ vec_capacity w.drawn
  pub verdict_room : jobs_of board ≤ vec_capacity w.verdicts

-- a worker goes on to another state of its own
pub record GoesOn (old new : Worker) : Type 0 where
  pub number : new.number ≡ old.number
  pub room : (view_of new.seat).room ≡ (view_of old.seat).room
  pub taken : (view_of new.seat).taken ≡ (view_of old.seat).taken
  pub seen : (view_of new.seat).seen ≤ (view_of old.seat).seen

-- the worker works till no number is left
pub record Finishes (stop : Bool) (answers : ℕ → Verdict → Type 0) (board : Board) (old new : Worker) : Type 0 where
  pub done : HasDone stop answers board new
  pub ended : (view_of new.seat).ended ≡ true
  pub same : GoesOn old new

abbrev pub with_room : View → ℕ → View
with_room v room = view v.jobs v.mine v.taken v.ended room v.noted v.seen
