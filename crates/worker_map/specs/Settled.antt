-- The verdicts by number, once all workers have ended.
use Rattle.std.specs.Prelude.{◌≡◌, ℕ, ◌<◌, Bool, true, List, map, length, nat_lt, Option, Some, None, slice_get}
use Rattle.std.specs.List.{AllByRecursion}
use Rattle.std.specs.Global.{Vec}
use Rattle.pool_core.specs.Numbers.{times}
use Rattle.claim_board.specs.declared.view.View.{View}
use Rattle.proof_cache.specs.declared.verdict.Verdict.{Verdict}
use Rattle.worker_map.specs.Answers.{Given, has_failed}
use Rattle.worker_map.specs.Crew.{jobs_in, IsBehind}

-- one worker skips each job behind a noted one
abbrev pub SkipsBehind : List ℕ → ℕ × Option Verdict → Type 0
SkipsBehind noted v = (k : ℕ) → k < v.0 → 0 < times k noted → v.1 ≡ None

-- a verdict that the seat with all room has settled: it is one of its job; a skipped job is behind what was seen; a job has failed just where it is noted; and one worker alone has skipped each job behind a noted one
pub record IsSettled (stop : Bool) (answers : ℕ → Verdict → Type 0) (seat : View) (v : ℕ × Option Verdict) : Type 0 where
  pub given : Given answers v.0 v.1
  pub behind : IsBehind stop seat.seen v
  pub failed : stop ≡ true → has_failed v.1 ≡ nat_lt 0 (times v.0 seat.noted)
  pub alone : stop ≡ true → length seat.taken ≡ 1 → SkipsBehind seat.noted v

abbrev pub lists_of : List (Vec (ℕ × Option Verdict)) → List (List ℕ)
lists_of = map (λ l. jobs_in l.items)

-- each verdict of the table whose job is not left is settled
abbrev pub Pending : Bool → (ℕ → Verdict → Type 0) → View → (ℕ → ℕ) → List (Option Verdict) → Type 0
Pending stop answers seat left table = (j : ℕ) (v : Option Verdict) → slice_get table j ≡ Some v → left j ≡ 0 → IsSettled stop answers seat (j, v)

-- an entry of a settled job that is in the table
abbrev pub Fits : Bool → (ℕ → Verdict → Type 0) → View → ℕ → ℕ × Option Verdict → Type 0
Fits stop answers seat jobs v = (v.0 < jobs) × IsSettled stop answers seat v

abbrev pub FitsAll : Bool → (ℕ → Verdict → Type 0) → View → ℕ → Vec (ℕ × Option Verdict) → Type 0
FitsAll stop answers seat jobs list = AllByRecursion (Fits stop answers seat jobs) list.items
