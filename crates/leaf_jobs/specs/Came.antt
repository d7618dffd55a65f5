-- What jobs come to, and what a report shows of it.
use Rattle.std.specs.Prelude.{ℕ, Bool, true, false, if◌then◌else◌, List, Option, None, Some, option_map, slice_get}
use Rattle.tla_io.specs.Told.{Bytes}
use Rattle.core_expr.specs.declared.canon.Canon.{Canon}
use Rattle.proof_cache.specs.declared.verdict.Verdict.{Verdict}
use Rattle.proof_cache.specs.declared.verdict.Verdict.TheVariants as verdict
use Rattle.status_report.specs.declared.table.Shown.{Shown}
use Rattle.status_report.specs.declared.table.Shown.TheVariants as shown
use Rattle.leaf_jobs.specs.Values.{valuation_text}

-- A proof was found, after so many turns, or was kept by an earlier run; the search ended without one, where values of the symbols may
-- make the facts true and the goal false; the turns were used up; or memory was not found.
pub data Came : Type 0 where
  proved : ℕ → Came
  kept : Came
  saturated : Option (List Bool) → ℕ → Came
  spent : ℕ → Came
  lost : Came

abbrev pub proved_by : Bool → ℕ → Came
proved_by true turns = kept
proved_by false turns = proved turns

-- what a verdict says of its job
abbrev pub came_of : Verdict → Came
came_of (verdict.Proved p turns cached) = proved_by cached turns
came_of (verdict.Saturated values turns) = saturated values turns
came_of (verdict.Spent turns) = spent turns
came_of verdict.Memory = lost

-- a job that was skipped has no verdict, and is not shown
abbrev pub came_told : Option Verdict → Came
came_told None = lost
came_told (Some v) = came_of v

abbrev pub came_found : Option (Option Verdict) → Came
came_found None = lost
came_found (Some v) = came_told v

-- what the job with this number came to
abbrev pub came_at : List (Option Verdict) → ℕ → Came
came_at verdicts job = came_found (slice_get verdicts job)

-- what is shown of a job, whose symbols have these names
abbrev pub shown_of : List Bytes → Came → Shown
shown_of names (proved turns) = shown.Proved turns
shown_of names kept = shown.Cached
shown_of names (saturated values turns) = shown.Saturated turns (option_map (valuation_text names) values)
shown_of names (spent turns) = shown.Spent turns
shown_of names lost = shown.Memory

-- what jobs come to where those of some canonical forms find no memory
abbrev pub with_lost : (Canon → Bool) → (Canon → Came) → Canon → Came
with_lost is_lost f c = if is_lost c then lost else f c
