-- Verdicts of jobs by number.
use Rattle.std.specs.Prelude.{◌≡◌, ◌<◌, ℕ, Bool, false, List, [], ◌∷◌, Option, Some, None, if◌then◌else◌, slice_get}
use Rattle.core_expr.specs.declared.canon.Canon.{Canon}
use Rattle.proof_cache.specs.declared.verdict.Verdict.{Verdict}
use Rattle.proof_cache.specs.Verdicts.{Allowed, is_failed}

-- a verdict of the job with this number: it is allowed for the job's canonical form
abbrev pub IsVerdict : (Canon → Verdict → Type 0) → List Canon → ℕ → Verdict → Type 0
IsVerdict right jobs j v = (c : Canon) → slice_get jobs j ≡ Some c → Allowed right c v

-- the verdict of a job, where it was not skipped
abbrev pub Given : (ℕ → Verdict → Type 0) → ℕ → Option Verdict → Type 0
Given right job None = Unit {0}
Given right job (Some v) = right job v

abbrev pub has_failed : Option Verdict → Bool
has_failed None = false
has_failed (Some v) = is_failed v

-- a verdict of one of so many jobs
abbrev pub IsOf : (ℕ → Verdict → Type 0) → ℕ → ℕ × Option Verdict → Type 0
IsOf right jobs v = (v.0 < jobs) × Given right v.0 v.1

-- the job, where its verdict has failed
abbrev pub noted_by : ℕ × Option Verdict → List ℕ
noted_by v = if has_failed v.1 then v.0 ∷ [] else []
