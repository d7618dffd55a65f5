-- What a run reports of what was read.
use Rattle.std.specs.Prelude.{◌≡◌, ℕ, ◌≤◌, Bool, true, false, not, ◌&&◌, List, [], Option, None, Some, option_map, Ok}
use Rattle.std.specs.List.{list_all}
use Rattle.tla_io.specs.Told.{Bytes, Folder}
use Rattle.core_expr.specs.declared.canon.Canon.{Canon}
use Rattle.seq_calculus.specs.Lists.{Lists}
use Rattle.leaf_prover.specs.declared.answer.Answer.{Answer as Searched}
use Rattle.leaf_prover.specs.declared.answer.Answer.TheVariants.{Proved, Saturated, Spent, Cached}
use Rattle.leaf_prover.specs.Provers.{answered}
use Rattle.theorem_leaves.specs.Chapters.{chapters_of}
use Rattle.proof_contexts.specs.Statuses.{is_proved}
use Rattle.status_report.specs.declared.table.ModuleIn.{ModuleIn}
use Rattle.status_report.specs.declared.table.Style.{Style}
use Rattle.status_report.specs.declared.table.Style.TheVariants.{Plain, Json, Brief, BriefJson}
use Rattle.status_report.specs.Report.{statuses_of}
use Rattle.status_report.specs.Styles.{report_text}
use Rattle.leaf_jobs.specs.Came.{Came, with_lost}
use Rattle.leaf_jobs.specs.Came.Came.{proved, kept, saturated, spent}
use Rattle.leaf_jobs.specs.Forms.{forms_of}
use Rattle.leaf_jobs.specs.Judging.{judged}
use Rattle.leaf_jobs.specs.Stopping.{reported}
use Rattle.indexmap.specs.IndexSet.{insert_all}
use Rattle.core_expr.specs.Equality.{same_canon}
use Rattle.job_plan.specs.Plan.{canons_of}
use Rattle.demo_maker.specs.Demo.{demo_text}
use Rattle.command_words.specs.Requests.{Asked}
use Rattle.module_shelf.specs.Loading.{Outcome}
use Rattle.proof_manager.specs.Reading.{Read, reading}

-- ---- what is read

-- the text of a demonstration, where one is asked for
abbrev pub given_for : Bytes → Option ℕ → Option Bytes
given_for root demo = option_map (demo_text root) demo

-- what is read where this is asked for
abbrev pub reading_for : Asked → Folder → Outcome Read
reading_for a folder = reading (given_for a.root a.demo) folder a.root

-- the modules that are asked for are read as this
abbrev pub IsRead : Asked → Folder → Read → Type 0
IsRead a folder r = reading_for a folder ≡ Ok r

-- ---- what its leaves come to

-- an answer of the search, as what a job comes to
abbrev pub as_came : Searched → Came
as_came (Proved turns) = proved turns
as_came (Saturated values turns) = saturated values turns
as_came (Spent turns) = spent turns
as_came Cached = kept

-- the proofs that a cache keeps for each canonical form, in the order of its lines
abbrev pub Proofs : Type 0
Proofs = Canon → List Lists

-- what a canonical form comes to: by the first kept proof that is correct for it, or by the written search with at most so many turns
abbrev pub came : Proofs → ℕ → Canon → Came
came ps turns c = as_came (answered (ps c) turns c)

-- The modules with what their leaves come to by the kept proofs and the written search, and whether the report is stopped: with `--stop`
-- up to the first failed leaf. No number of workers occurs in it.
abbrev pub defined : Proofs → Asked → Read → List ModuleIn × Bool
defined ps a r = reported a.stop (judged (came ps a.turns) r.table.entries (chapters_of r.modules r.table))

-- the same, where the searches of some canonical forms found no memory
abbrev pub told : Proofs → (Canon → Bool) → Asked → Read → List ModuleIn × Bool
told ps lost a r = reported a.stop (judged (with_lost lost (came ps a.turns)) r.table.entries (chapters_of r.modules r.table))

-- the canonical forms that are proved: one for each different form of a leaf, in the order of the first
abbrev pub jobs_of : Read → List Canon
jobs_of r = insert_all same_canon [] (canons_of (forms_of (chapters_of r.modules r.table)))

-- ---- the report

-- as JSON or not; of a demonstration the counts alone are written
abbrev pub style_for : Bool → Option ℕ → Style
style_for false None = Plain
style_for true None = Json
style_for false (Some n) = Brief
style_for true (Some n) = BriefJson

-- the style that is asked for
abbrev pub style_of : Asked → Style
style_of a = style_for a.json a.demo

abbrev pub text_of : Style → List ModuleIn × Bool → Bytes
text_of style ms = report_text style ms.1 ms.0

-- the report is not stopped, and every theorem is reported proved
abbrev pub all_hold : List ModuleIn × Bool → Bool
all_hold ms = not ms.1 && list_all is_proved (statuses_of ms.0)

-- ---- what is asked for

abbrev pub IsDemoSize : Option ℕ → Type 0
IsDemoSize None = Unit {0}
IsDemoSize (Some n) = (1 ≤ n) × (n ≤ 1000)

-- the numbers that lawful words may have
pub record InRange (a : Asked) : Type 0 where
  pub turns : (1 ≤ a.turns) × (a.turns ≤ 1000000)
  pub workers : (1 ≤ a.workers) × (a.workers ≤ 64)
  pub demo : IsDemoSize a.demo
