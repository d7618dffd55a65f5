-- What is reported, against the leaves of all theorems.
use Rattle.std.specs.Prelude.{◌≡◌, ℕ, Bool, true, false, List, [], ◌∷◌, Option, Some, None, slice_get}
use Rattle.indexmap.specs.IndexSet.{insert_all}
use Rattle.core_expr.specs.declared.canon.Canon.{Canon}
use Rattle.core_expr.specs.Equality.{same_canon}
use Rattle.symbol_table.specs.declared.entry.Entry.{Entry}
use Rattle.proof_contexts.specs.Statuses.{Status, is_proved}
use Rattle.job_plan.specs.Plan.{canons_of}
use Rattle.proof_cache.specs.declared.verdict.Verdict.{Verdict}
use Rattle.theorem_leaves.specs.declared.chapter.Chapter.{Chapter}
use Rattle.status_report.specs.declared.table.ModuleIn.{ModuleIn}
use Rattle.status_report.specs.Report.{statuses_of, has_memory_leaf}
use Rattle.leaf_jobs.specs.Came.{Came, with_lost}
use Rattle.leaf_jobs.specs.Forms.{forms_of}
use Rattle.leaf_jobs.specs.Judging.{judged}
use Rattle.leaf_jobs.specs.Plans.{AreVerdicts, ComeTo}
use Rattle.leaf_jobs.specs.Stopping.{reported}

-- where failures do not stop the run, all leaves of all theorems are reported
abbrev pub UnstoppedIsWhole : Type 0
UnstoppedIsWhole = (ms : List ModuleIn) → reported false ms ≡ (ms, false)

-- where some jobs find no memory, and no leaf of the report wanted memory, all jobs that find it give the same report
abbrev pub ReportWithoutMemory : Type 0
ReportWithoutMemory =
    (stop : Bool) (is_lost : Canon → Bool) (f : Canon → Came) (es : List Entry) (cs : List Chapter) → has_memory_leaf (reported stop (judged (with_lost is_lost f) es cs)).0 ≡ false
    → reported stop (judged (with_lost is_lost f) es cs) ≡ reported stop (judged f es cs)

-- the statuses of the first theorems, of which one is proved only where the whole theorem is
abbrev pub StatusesOfFront : List Status → List Status → Type 0
StatusesOfFront [] ss = Unit {0}
StatusesOfFront (r ∷ rs) [] = ⊥
StatusesOfFront (r ∷ rs) (s ∷ ss) = (is_proved r ≡ true → is_proved s ≡ true) × StatusesOfFront rs ss

-- a theorem that is reported proved, also where a failed leaf ended the run, is proved by all its leaves
abbrev pub FrontsAreProved : Type 0
FrontsAreProved = (stop : Bool) (ms : List ModuleIn) → StatusesOfFront (statuses_of (reported stop ms).0) (statuses_of ms)

-- where the report is not stopped, no job was skipped: each has a verdict
abbrev pub WholeIsGiven : Type 0
WholeIsGiven =
    (stop : Bool) (least : Option ℕ) (jobs : List Canon) (verdicts : List (Option Verdict)) (f : Canon → Came) (es : List Entry) (cs : List Chapter)
    → jobs ≡ insert_all same_canon [] (canons_of (forms_of cs)) → AreVerdicts stop least jobs verdicts → ComeTo f jobs verdicts → (reported stop (judged f es cs)).1 ≡ false
    → (j : ℕ) → slice_get verdicts j ≡ Some None → ⊥

-- where the report is not stopped, and no leaf of it wanted memory, each job found its memory
abbrev pub WholeFindsMemory : Type 0
WholeFindsMemory =
    (stop : Bool) (is_lost : Canon → Bool) (f : Canon → Came) (es : List Entry) (cs : List Chapter) → (reported stop (judged (with_lost is_lost f) es cs)).1 ≡ false
    → has_memory_leaf (reported stop (judged (with_lost is_lost f) es cs)).0 ≡ false
    → (i : ℕ) (c : Canon) → slice_get (insert_all same_canon [] (canons_of (forms_of cs))) i ≡ Some c → is_lost c ≡ false
