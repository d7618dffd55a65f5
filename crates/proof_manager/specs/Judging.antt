-- What the jobs of a run give.
use Rattle.std.specs.Prelude.{◌≡◌, Bool, false, option_map}
use Rattle.tla_io.specs.Told.{Bytes}
use Rattle.core_expr.specs.declared.canon.Canon.{Canon}
use Rattle.status_report.specs.Report.{has_memory_leaf}
use Rattle.leaf_jobs.specs.Came.{with_lost}
use Rattle.command_words.specs.Requests.{Asked}
use Rattle.proof_manager.specs.Reading.{Read}
use Rattle.proof_manager.specs.Runs.{Proofs, came, told, jobs_of}
use Rattle.proof_manager.specs.Caching.{CacheOut, IsMade}
use Rattle.proof_manager.specs.declared.jobs.Outcome.{Outcome}

-- no form
abbrev pub no_form : Canon → Bool
no_form c = false

-- the new cache of a run in which some forms found no memory
abbrev pub IsOut : Proofs → (Canon → Bool) → Asked → Read → Bytes → Type 0
IsOut ps lost a r bytes = CacheOut (with_lost lost (came ps a.turns)) ps (jobs_of r) bytes

-- With these kept proofs the leaves come to what is told, where some forms found no memory; of these forms none is to be proved where
-- the report is not stopped and has no Memory leaf. The new cache is made where one is to be left.
pub record IsJudgedWith (ps : Proofs) (a : Asked) (r : Read) (o : Outcome) (lost : Canon → Bool) : Type 0 where
  pub is : (o.judged.modules, o.judged.stopped) ≡ told ps lost a r
  pub made : IsMade (told ps lost a r).1 a.cache (IsOut ps lost a r) (option_map (λ v. v.items) o.next)
  pub found : (told ps lost a r).1 ≡ false → has_memory_leaf (told ps lost a r).0 ≡ false → (bytes : Bytes) → IsOut ps lost a r bytes → IsOut ps no_form a r bytes

abbrev pub IsJudged : Proofs → Asked → Read → Outcome → Type 0
IsJudged ps a r o = (lost : Canon → Bool) × IsJudgedWith ps a r o lost
