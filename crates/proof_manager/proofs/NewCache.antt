-- The new cache has a line for each form that is proved.
use Rattle.std.specs.Prelude.{◌≡◌, ℕ, suc, Bool, true, false, not, is_some, ◌&&◌, if◌then◌else◌, List, [], ◌∷◌, ◌++◌, Option, Some, None, length, slice_get, option_map}
use Rattle.std.proofs.Common.{refl, ap, sym, subst, ◌∙◌, arith}
use Rattle.std.proofs.lemmas.List.Concat.{flat_map-append}
use Rattle.tla_io.specs.Told.{Bytes}
use Rattle.core_expr.specs.declared.canon.Canon.{Canon}
use Rattle.seq_calculus.specs.Lists.{Lists}
use Rattle.job_plan.specs.Plan.{canons_of}
use Rattle.proof_cache.specs.declared.verdict.Verdict.{Verdict}
use Rattle.proof_cache.specs.declared.verdict.Verdict.TheVariants as verdict
use Rattle.proof_cache.specs.Verdicts.{Allowed}
use Rattle.cache_hit.specs.Hits.{hit}
use Rattle.cache_file.specs.Written.{file_of, written_line, proved_job, proved_jobs}
use Rattle.proof_cache.specs.declared.record.Record.{Record}
use Rattle.leaf_prover.specs.Forms.{is_form}
use Rattle.leaf_prover.specs.Provers.{IsAnswered, IsAnsweredBy, IsAnsweredWhere, ProofsAreCorrect, RightIsAnswered}
use Rattle.worker_map.specs.Answers.{Given, IsVerdict}
use Rattle.worker_map.specs.Stops.{AllGiven}
use Rattle.theorem_leaves.specs.Chapters.{chapters_of}
use Rattle.status_report.specs.declared.table.ModuleIn.{ModuleIn}
use Rattle.leaf_jobs.specs.Came.{Came, came_of, proved_by, with_lost}
use Rattle.leaf_jobs.specs.Came.Came.{lost}
use Rattle.leaf_jobs.specs.Forms.{forms_of}
use Rattle.leaf_jobs.specs.Laws.{WholeIsGiven, WholeFindsMemory}
use Rattle.leaf_jobs.specs.Plans.{AreVerdicts, ComeTo}
use Rattle.command_words.specs.Requests.{Asked}
use Rattle.proof_manager.specs.Reading.{Read}
use Rattle.proof_manager.specs.Runs.{Proofs, came, told, jobs_of}
use Rattle.proof_manager.specs.Caching.{IsProofFor, IsLineFor, Adds, CacheOut, IsMade, made_where}
use Rattle.proof_manager.specs.Judging.{no_form, IsOut, IsJudgedWith}
use Rattle.proof_manager.specs.declared.jobs.Outcome.{Outcome}
use Rattle.proof_manager.proofs.Lost.{is_lost, come_to}

module _ (ps : Proofs) (n : ℕ) (f : Canon → Came) (law : ProofsAreCorrect) where
  abbrev Right : Canon → Verdict → Type 0
  Right c v = IsAnswered (ps c) n c v

  -- the proof of a right verdict is one for the form
  proof-for : (c : Canon) (p : Lists) (turns : ℕ) (cached : Bool) → Right c (verdict.Proved p turns cached) → IsProofFor ps c p
  proof-for c p turns cached h =
      record { correct = law (ps c) n c p turns cached h; kept = λ q e. hit-is (is_form c) q e h }
    where
      hit-is : (b : Bool) (q : Lists) → hit c (ps c) ≡ Some q → IsAnsweredWhere b (ps c) n c (verdict.Proved p turns cached) → p ≡ q
      hit-is true q e h =
          let is : verdict.Proved p turns cached ≡ verdict.Proved q 0 true = (subst (λ o. IsAnsweredBy o n c (verdict.Proved p turns cached)) e h).0 in
          cc
      hit-is false q e h = absurd cc

  adds-so : (b : Bool) (turns : ℕ) (c : Canon) (bytes : Bytes) → IsLineFor ps c bytes → Adds (proved_by b turns) ps c bytes
  adds-so true turns c bytes h = h
  adds-so false turns c bytes h = h

  adds : (c : Canon) (v : Verdict) → Allowed Right c v → f c ≡ came_of v → Adds (f c) ps c (file_of (proved_job c (Some v)))
  adds c (verdict.Proved p turns cached) h e =
      let line = file_of (record { canon = c; proof = p } ∷ []) in
      subst (λ x. Adds x ps c line) (sym e) (adds-so cached turns c line (p, proof-for c p turns cached h, refl))
  adds c (verdict.Saturated values turns) h e = subst (λ x. Adds x ps c []) (sym e) refl
  adds c (verdict.Spent turns) h e = subst (λ x. Adds x ps c []) (sym e) refl
  adds c verdict.Memory h e = subst (λ x. Adds x ps c []) (sym e) refl

  given-behind : (c : Canon) (ks : List Canon) (j : ℕ) (v : Option Verdict) → Given (IsVerdict Right (c ∷ ks)) (suc j) v → Given (IsVerdict Right ks) j v
  given-behind c ks j None h = tt
  given-behind c ks j (Some v) h = h

  -- jobs that all have a verdict
  out : (ks : List Canon) (vs : List (Option Verdict)) → length vs ≡ length ks → ((j : ℕ) → slice_get vs j ≡ Some None → ⊥) → AllGiven (IsVerdict Right ks) vs → ComeTo f ks vs
      → CacheOut f ps ks (file_of (proved_jobs ks vs))
  out [] vs l none given to = refl
  out (c ∷ ks) [] l none given to = absurd (omega (arith, l))
  out (c ∷ ks) (None ∷ vs) l none given to = absurd (none 0 refl)
  out (c ∷ ks) (Some v ∷ vs) l none given to = (
    file_of (proved_job c (Some v)),
    file_of (proved_jobs ks vs),
    flat_map-append (λ (r : Record). written_line r ++ 10 ∷ []) (proved_job c (Some v)) (proved_jobs ks vs),
    adds c v (given 0 (Some v) refl c refl) (to 0 c v refl refl),
    out ks vs (omega (arith, l)) (λ j e. none (suc j) e) (λ j w e. given-behind c ks j w (given (suc j) w e)) (λ j d w k at. to (suc j) d w k at),
  )

-- forms that come to the same add the same
same-out : (ps : Proofs) (f g : Canon → Came) (ks : List Canon) (bytes : Bytes) → ((i : ℕ) (c : Canon) → slice_get ks i ≡ Some c → f c ≡ g c) → CacheOut f ps ks bytes → CacheOut g ps ks bytes
same-out ps f g [] bytes same h = h
same-out ps f g (c ∷ ks) bytes same h =
    (h.0, h.1, h.2, subst (λ x. Adds x ps c h.0) (same 0 c refl) h.3, same-out ps f g ks h.1 (λ i d e. same (suc i) d e) h.4)

-- what is made where it is wanted
made-so : (stopped : Bool) (file : Option Bytes) (Out : Bytes → Type 0) (bytes : Bytes) (next : Option Bytes) → next ≡ made_where (is_some file && not stopped) bytes → (stopped ≡ false → Out bytes)
    → IsMade stopped file Out next
made-so stopped None Out bytes next e h = e
made-so true (Some file) Out bytes next e h = e
made-so false (Some file) Out bytes next e h = (bytes, h refl, e)

module _ (ps : Proofs) (a : Asked) (r : Read) (jobs : List Canon) (vs : List (Option Verdict)) (least : Option ℕ) where
  abbrev lost_ones : Canon → Bool
  lost_ones = is_lost jobs vs

  abbrev comes : Canon → Came
  comes = with_lost lost_ones (came ps a.turns)

  -- what the verdicts of the jobs give
  pub is-judged : RightIsAnswered → ProofsAreCorrect → WholeIsGiven → WholeFindsMemory → jobs ≡ jobs_of r → AreVerdicts a.stop least jobs vs → AllGiven (IsVerdict (λ c. IsAnswered (ps c) a.turns c) jobs) vs
      → (o : Outcome) → (ComeTo comes jobs vs → (o.judged.modules, o.judged.stopped) ≡ told ps lost_ones a r)
      → option_map (λ v. v.items) o.next ≡ made_where (is_some a.cache && not o.judged.stopped) (file_of (proved_jobs jobs vs)) → IsJudgedWith ps a r o lost_ones
  is-judged right correct whole memory planned are given o judge next =
      let cs = chapters_of r.modules r.table in
      let to = come_to ps a.turns right jobs (canons_of (forms_of cs)) vs planned given in
      let is = judge to in
      let stop = ap (λ (x : List ModuleIn × Bool). x.1) is in
      let all : (told ps lost_ones a r).1 ≡ false → IsOut ps lost_ones a r (file_of (proved_jobs jobs vs)) = λ s.
      subst (λ ks. CacheOut comes ps ks (file_of (proved_jobs jobs vs))) planned
      (out ps a.turns comes correct jobs vs are.count (whole a.stop least jobs vs comes r.table.entries cs planned are to s) given to) in
      record {
        is = is;
        made = made-so (told ps lost_ones a r).1 a.cache (IsOut ps lost_ones a r) (file_of (proved_jobs jobs vs)) (option_map (λ v. v.items) o.next)
            (next ∙ ap (λ b. made_where (is_some a.cache && not b) (file_of (proved_jobs jobs vs))) stop) all;
        found = λ s m bytes out.
            same-out ps comes (with_lost no_form (came ps a.turns)) (jobs_of r) bytes
            (λ i c at. ap (λ b. if b then lost else came ps a.turns c) (memory a.stop lost_ones (came ps a.turns) r.table.entries cs s m i c at)) out;
      }
