-- The plan of a run, and what its jobs came to.
use Rattle.std.specs.Prelude.{◌≡◌, ℕ, Bool, List, [], Option, Some, slice_get, length}
use Rattle.indexmap.specs.IndexSet.{insert_all}
use Rattle.core_expr.specs.declared.canon.Canon.{Canon}
use Rattle.core_expr.specs.Equality.{same_canon}
use Rattle.canonical_form.specs.declared.form.Named.{Named}
use Rattle.job_plan.specs.declared.jobs.Plan.{Plan}
use Rattle.job_plan.specs.Plan.{ArePlaces, canons_of, names_of}
use Rattle.proof_cache.specs.declared.verdict.Verdict.{Verdict}
use Rattle.worker_map.specs.Stops.{IsLeast, IsCutAt}
use Rattle.leaf_jobs.specs.Came.{Came, came_of}

-- one job for each different form, in order of the first leaf; each leaf's job and names
pub record IsPlanned (forms : List Named) (p : Plan) : Type 0 where
  pub jobs : p.jobs.items ≡ insert_all same_canon [] (canons_of forms)
  pub places : ArePlaces p.jobs.items (canons_of forms) p.of_leaf.items
  pub names : p.names.items ≡ names_of forms

-- the verdicts of jobs, of which those behind the least failed one may be left out where failures stop the run
pub record AreVerdicts (stop : Bool) (failed : Option ℕ) (jobs : List Canon) (verdicts : List (Option Verdict)) : Type 0 where
  pub count : length verdicts ≡ length jobs
  pub least : IsLeast failed verdicts
  pub skipped : IsCutAt stop failed verdicts

-- the jobs come to this, by their verdicts
abbrev pub ComeTo : (Canon → Came) → List Canon → List (Option Verdict) → Type 0
ComeTo came jobs verdicts = (j : ℕ) (c : Canon) (v : Verdict) → slice_get jobs j ≡ Some c → slice_get verdicts j ≡ Some (Some v) → came c ≡ came_of v
