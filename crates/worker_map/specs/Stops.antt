-- What the whole call gives.
use Rattle.std.specs.Prelude.{◌≡◌, ℕ, ◌<◌, ◌≤◌, nat_lt, length, Bool, true, false, List, [], Option, Some, None, slice_get}
use Rattle.claim_board.specs.declared.view.View.{View}
use Rattle.pool_core.specs.Numbers.{times}
use Rattle.claim_board.specs.Views.{view, all_rooms}
use Rattle.proof_cache.specs.declared.verdict.Verdict.{Verdict}
use Rattle.worker_map.specs.Answers.{Given, has_failed}
use Rattle.worker_map.specs.Settled.{SkipsBehind}

-- each verdict is one of its job
abbrev pub AllGiven : (ℕ → Verdict → Type 0) → List (Option Verdict) → Type 0
AllGiven answers table = (j : ℕ) (v : Option Verdict) → slice_get table j ≡ Some v → Given answers j v

-- a job without a verdict stands behind a failed one, and failures stop the run
abbrev pub IsCut : Bool → List (Option Verdict) → Type 0
IsCut stop table = (j : ℕ) → slice_get table j ≡ Some None → (stop ≡ true) × (k : ℕ) × (k < j) × (v : Option Verdict) × (slice_get table k ≡ Some v) × (has_failed v ≡ true)

-- the job has a verdict
abbrev pub told : List (Option Verdict) → ℕ → Bool
told table j = elim (slice_get table j) [
  | None ↦ false
  | Some v ↦ elim v [ None ↦ false | Some _ ↦ true ]
]

abbrev pub HasTaken : ℕ → List (List ℕ) → View → Type 0
HasTaken jobs lists v = v ≡ view jobs [] lists true all_rooms v.noted v.seen

-- no verdict of a smaller number has failed
abbrev pub NoneFailed : ℕ → List (Option Verdict) → Type 0
NoneFailed k table = (j : ℕ) (v : Option Verdict) → j < k → slice_get table j ≡ Some v → has_failed v ≡ false

-- the least number of a failed verdict, or none where none has failed
abbrev pub IsLeast : Option ℕ → List (Option Verdict) → Type 0
IsLeast None table = (j : ℕ) (v : Option Verdict) → slice_get table j ≡ Some v → has_failed v ≡ false
IsLeast (Some k) table = (v : Option Verdict) × (slice_get table k ≡ Some v) × (has_failed v ≡ true) × NoneFailed k table

-- each job behind a noted one was skipped
abbrev pub AllSkipBehind : List ℕ → List (Option Verdict) → Type 0
AllSkipBehind noted table = (j : ℕ) (v : Option Verdict) → slice_get table j ≡ Some v → SkipsBehind noted (j, v)

-- each job behind the least failed one was skipped
abbrev pub SkipsBehindLeast : Option ℕ → List (Option Verdict) → Type 0
SkipsBehindLeast least table = (k j : ℕ) (v : Option Verdict) → least ≡ Some k → k < j → slice_get table j ≡ Some v → v ≡ None

-- what the seat has noted: the failed jobs where failures stop the run, else none
pub record IsNoted (stop : Bool) (noted : List ℕ) (table : List (Option Verdict)) : Type 0 where
  pub failed : stop ≡ true → (j : ℕ) (v : Option Verdict) → slice_get table j ≡ Some v → has_failed v ≡ nat_lt 0 (times j noted)
  pub jobs : (j : ℕ) → length table ≤ j → times j noted ≡ 0
  pub none : stop ≡ false → noted ≡ []

-- a job without a verdict stands behind the least failed one, and failures stop the run
abbrev pub IsCutAt : Bool → Option ℕ → List (Option Verdict) → Type 0
IsCutAt stop least table = (j : ℕ) → slice_get table j ≡ Some None → (stop ≡ true) × (k : ℕ) × (least ≡ Some k) × (k < j)
