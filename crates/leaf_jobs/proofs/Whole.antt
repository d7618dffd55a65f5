-- Where a report is not stopped, it shows what the forms of all jobs come to.
use Rattle.std.specs.Prelude.{◌≡◌, ℕ, ◌<◌, Bool, true, false, ◌&&◌, ◌||◌, if◌then◌else◌, List, [], ◌∷◌, ◌++◌, map, flat_map, Option, Some, None, slice_get}
use Rattle.std.specs.List.{list_any, AllByRecursion}
use Rattle.std.proofs.Common.{refl, ap, sym, ◌∙◌, subst, ⊎_elim, arith}
use Rattle.std.proofs.lemmas.Bool.{or_parts, both_ways}
use Rattle.std.proofs.lemmas.Option.{slice_get_within}
use Rattle.indexmap.specs.IndexSet.{insert_key, insert_all}
use Rattle.tla_io.specs.Told.{Bytes}
use Rattle.core_expr.specs.declared.canon.Canon.{Canon}
use Rattle.core_expr.specs.Equality.{same_canon}
use Rattle.symbol_table.specs.declared.entry.Entry.{Entry}
use Rattle.proof_contexts.specs.declared.leaf.LeafKind.{LeafKind}
use Rattle.proof_contexts.specs.declared.leaf.LeafKind.TheVariants as kind
use Rattle.canonical_form.specs.declared.form.Named.{Named}
use Rattle.job_plan.specs.Plan.{canons_of}
use Rattle.proof_cache.specs.declared.verdict.Verdict.{Verdict}
use Rattle.proof_cache.specs.Verdicts.{is_failed}
use Rattle.worker_map.specs.Answers.{has_failed}
use Rattle.worker_map.specs.Stops.{IsLeast}
use Rattle.theorem_leaves.specs.declared.chapter.TheoremLeaves.{TheoremLeaves}
use Rattle.theorem_leaves.specs.declared.chapter.Chapter.{Chapter}
use Rattle.status_report.specs.declared.table.Shown.{Shown}
use Rattle.status_report.specs.declared.table.LeafIn.{LeafIn}
use Rattle.status_report.specs.declared.table.TheoremIn.{TheoremIn}
use Rattle.status_report.specs.declared.table.ModuleIn.{ModuleIn}
use Rattle.status_report.specs.Report.{is_memory, has_memory_leaf}
use Rattle.leaf_jobs.specs.Came.{Came, came_of, shown_of, with_lost}
use Rattle.leaf_jobs.specs.Came.Came.{lost}
use Rattle.leaf_jobs.specs.Forms.{form_of_kind, form_of_leaf, forms_of_theorem, forms_of_chapter, forms_of}
use Rattle.leaf_jobs.specs.Judging.{judged_kind, judged_leaf, judged_theorem, judged_module, judged}
use Rattle.leaf_jobs.specs.Stopping.{front_and, front, cut_leaf, cut_theorem, cut_module, stops, reported}
use Rattle.leaf_jobs.specs.Stopping.{has_failed as shows_failure}
use Rattle.leaf_jobs.specs.Laws.{WholeIsGiven, WholeFindsMemory}
use Rattle.leaf_jobs.proofs.FrontStatuses.{whole-front, module-whole}
use Rattle.leaf_jobs.proofs.Order.{there, old-or-same, fails-alike}

-- ---- some leaf passes a test

module _ (test : Shown → Bool) where
  abbrev in_leaf : LeafIn → Bool
  in_leaf l = test l.verdict

  abbrev in_theorem : TheoremIn → Bool
  in_theorem t = list_any in_leaf t.leaves

  abbrev in_module : ModuleIn → Bool
  in_module m = list_any in_theorem m.theorems

-- a list is cut where some item stops
front-any : {A : Type 0} (cut : A → A × Bool) (test : A → Bool) → ((x : A) → (cut x).1 ≡ test x) → (xs : List A) → (front cut xs).1 ≡ list_any test xs
front-any cut test h [] = refl
front-any {A = A} cut test h (x ∷ xs) = go (cut x).0 (cut x).1 (test x) (front cut xs) (h x) (front-any cut test h xs)
  where
    go : (y : A) (b c : Bool) (w : List A × Bool) → b ≡ c → w.1 ≡ list_any test xs → (front_and (y, b) w).1 ≡ (c || list_any test xs)
    go y true c w e k = ap (λ d. d || list_any test xs) e
    go y false c w e k = k ∙ ap (λ d. d || list_any test xs) e

theorem-any : (stop : Bool) (t : TheoremIn) → (cut_theorem (stops stop) t).1 ≡ in_theorem (stops stop) t
theorem-any stop t = front-any (cut_leaf (stops stop)) (in_leaf (stops stop)) (λ l. refl) t.leaves

module-any : (stop : Bool) (m : ModuleIn) → (cut_module (stops stop) m).1 ≡ in_module (stops stop) m
module-any stop m = front-any (cut_theorem (stops stop)) (in_theorem (stops stop)) (theorem-any stop) m.theorems

any-stops : (stop : Bool) (ms : List ModuleIn) → (reported stop ms).1 ≡ list_any (in_module (stops stop)) ms
any-stops stop ms = front-any (cut_module (stops stop)) (in_module (stops stop)) (module-any stop) ms

-- ---- what is shown of forms

both : {X : Type 0} (P : X → Type 0) (xs ys : List X) → AllByRecursion P xs → AllByRecursion P ys → AllByRecursion P (xs ++ ys)
both P [] ys h k = k
both P (x ∷ xs) ys h k = (h.0, both P xs ys h.1 k)

module _ (test : Shown → Bool) (came : Canon → Came) (es : List Entry) where
  -- of some leaf with this form something is shown that does not pass the test
  abbrev Fails : Canon → Type 0
  Fails c = (names : List Bytes) × (test (shown_of names (came c)) ≡ false)

  abbrev AllFail : List Named → Type 0
  AllFail ns = AllByRecursion (λ (n : Named). Fails n.canon) ns

  on-items : {X Y : Type 0} (form : X → List Named) (judge : X → Y) (any : Y → Bool) → ((x : X) → any (judge x) ≡ false → AllFail (form x))
      → (xs : List X) → list_any any (map judge xs) ≡ false → AllFail (flat_map form xs)
  on-items form judge any h [] e = tt
  on-items form judge any h (x ∷ xs) e =
      let p = or_parts (any (judge x)) (list_any any (map judge xs)) e in
      both (λ (n : Named). Fails n.canon) (form x) (flat_map form xs) (h x p.0) (on-items form judge any h xs p.1)

  kind-fails : (k : LeafKind) → test (judged_kind came es k) ≡ false → AllFail (form_of_kind k)
  kind-fails (kind.Search o) e = ((_, e), tt)
  kind-fails kind.Missing e = tt
  kind-fails kind.Omitted e = tt
  kind-fails kind.Temporal e = tt
  kind-fails kind.Shape e = tt

  theorem-fails : (t : TheoremLeaves) → in_theorem test (judged_theorem came es t) ≡ false → AllFail (forms_of_theorem t)
  theorem-fails t e = on-items form_of_leaf (judged_leaf came es) (in_leaf test) (λ l. kind-fails l.kind) t.leaves e

  module-fails : (c : Chapter) → in_module test (judged_module came es c) ≡ false → AllFail (forms_of_chapter c)
  module-fails c e = on-items forms_of_theorem (judged_theorem came es) (in_theorem test) theorem-fails c.theorems e

  -- what holds of keys and of further ones holds of all
  keys-fail : (ks : List Canon) (ns : List Named) → ((i : ℕ) (c : Canon) → slice_get ks i ≡ Some c → Fails c) → AllFail ns
      → (i : ℕ) (c : Canon) → slice_get (insert_all same_canon ks (canons_of ns)) i ≡ Some c → Fails c
  keys-fail ks [] h k i c at = h i c at
  keys-fail ks (n ∷ ns) h k i c at =
      keys-fail (insert_key same_canon ks n.canon) ns
      (λ j d now. ⊎_elim (λ old. h j d old) (λ same. subst Fails same k.0) (old-or-same (list_any (same_canon n.canon) ks) ks n.canon j d now))
      k.1 i c at

  -- where nothing that is shown passes the test, so it is with the forms of all jobs
  jobs-fail : (cs : List Chapter) → list_any (in_module test) (judged came es cs) ≡ false
      → (i : ℕ) (c : Canon) → slice_get (insert_all same_canon [] (canons_of (forms_of cs))) i ≡ Some c → Fails c
  jobs-fail cs e i c at =
      keys-fail [] (forms_of cs) (λ j d now. absurd (cc)) (on-items forms_of_chapter (judged_module came es) (in_module test) module-fails cs e) i c at

-- ---- the laws

pub whole_finds_memory : WholeFindsMemory
whole_finds_memory stop is_lost f es cs whole none i c at =
    let came = with_lost is_lost f in
    let ms = judged came es cs in
    let same = whole-front (cut_module (stops stop)) (module-whole stop) ms whole in
    let p = jobs-fail is_memory came es cs (sym (ap has_memory_leaf same) ∙ none) i c at in
    found p.0 (is_lost c) p.1
  where
    found : (names : List Bytes) (b : Bool) → is_memory (shown_of names (if b then lost else f c)) ≡ false → b ≡ false
    found names true e = absurd (cc)
    found names false e = refl

pub whole_is_given : WholeIsGiven
whole_is_given stop least jobs verdicts f es cs planned are to whole j none = go worst.0 worst.1 worst.2
  where
    skipped : (stop ≡ true) × (k : ℕ) × (least ≡ Some k) × (k < j)
    skipped = are.skipped j none

    worst : IsLeast (Some skipped.1) verdicts
    worst = subst (λ l. IsLeast l verdicts) skipped.2 are.least

    -- the least failed job, whose form is shown
    job : (c : Canon) × (slice_get jobs skipped.1 ≡ Some c)
    job = let low = slice_get_within verdicts skipped.1 worst.0 worst.1 in there jobs skipped.1 (omega (arith, low, are.count))

    go : (v : Option Verdict) → slice_get verdicts skipped.1 ≡ Some v → has_failed v ≡ true → ⊥
    go None at e = absurd (cc)
    go (Some v) at e =
        let shown = jobs-fail (stops stop) f es cs (sym (any-stops stop (judged f es cs)) ∙ whole) skipped.1 job.0 (subst (λ l. slice_get l skipped.1 ≡ Some job.0) planned job.1) in
        let goes : (stop && shows_failure (shown_of shown.0 (came_of v))) ≡ false =
        ap (λ came. stops stop (shown_of shown.0 came)) (sym (to skipped.1 job.0 v job.1 at)) ∙ shown.1 in
        both_ways (is_failed v) (sym (fails-alike shown.0 v) ∙ subst (λ b. (b && shows_failure (shown_of shown.0 (came_of v))) ≡ false) skipped.0 goes) e
