-- What is shown of the leaves that are to be proved is what their forms come to, as far as the first failed one where failures stop the
-- run: each job is numbered by its first leaf, so a job that was skipped stands behind the leaf of a failed job.
use Rattle.std.specs.Prelude.{◌≡◌, ℕ, zero, suc, ◌<◌, ◌≤◌, Bool, true, false, ◌&&◌, ◌⊎◌, cond, List, [], ◌∷◌, ◌++◌, map, length, Option, Some, None, slice_get}
use Rattle.std.specs.List.{list_any}
use Rattle.std.proofs.Common.{refl, ap, sym, ◌∙◌, subst, inl, inr, ⊎_elim, arith}
use Rattle.std.proofs.lemmas.Bool.{or_cases, both_ways}
use Rattle.std.proofs.lemmas.Option.{slice_get_within, same_Some}
use Rattle.std.proofs.lemmas.Map.Keys.{any_passes_from_place}
use Rattle.indexmap.specs.IndexSet.{insert_key, insert_all}
use Rattle.core_expr.specs.declared.canon.Canon.{Canon}
use Rattle.core_expr.specs.Equality.{same_canon}
use Rattle.core_expr.specs.Keys.{canon-Decides}
use Rattle.symbol_table.specs.declared.entry.Entry.{Entry}
use Rattle.canonical_form.specs.declared.form.Named.{Named}
use Rattle.job_plan.specs.declared.jobs.Plan.{Plan}
use Rattle.job_plan.specs.Plan.{ArePlaces, canons_of, names_of}
use Rattle.tla_io.specs.Told.{Bytes}
use Rattle.proof_cache.specs.declared.verdict.Verdict.{Verdict}
use Rattle.proof_cache.specs.declared.verdict.Verdict.TheVariants as verdict
use Rattle.proof_cache.specs.Verdicts.{is_failed}
use Rattle.worker_map.specs.Answers.{has_failed}
use Rattle.worker_map.specs.Stops.{IsLeast}
use Rattle.leaf_jobs.specs.Values.{symbol_text}
use Rattle.leaf_jobs.specs.Came.{Came, came_of, came_found, shown_of}
use Rattle.leaf_jobs.specs.Stopping.{stops}
use Rattle.leaf_jobs.specs.Stopping.{has_failed as shows_failure}
use Rattle.leaf_jobs.specs.Filling.{shown_all}
use Rattle.leaf_jobs.specs.Plans.{IsPlanned, AreVerdicts, ComeTo}
use Rattle.leaf_jobs.proofs.Meets.{Meets}

-- ---- keys in order

at-old : (ks : List Canon) (k : Canon) (i : ℕ) (c : Canon) → slice_get ks i ≡ Some c → slice_get (ks ++ k ∷ []) i ≡ Some c
at-old [] k i c e = absurd (cc)
at-old (x ∷ xs) k zero c e = e
at-old (x ∷ xs) k (suc i) c e = at-old xs k i c e

at-new : (ks : List Canon) (k : Canon) → slice_get (ks ++ k ∷ []) (length ks) ≡ Some k
at-new [] k = refl
at-new (x ∷ xs) k = at-new xs k

old-or-new : (ks : List Canon) (k : Canon) (i : ℕ) (c : Canon) → slice_get (ks ++ k ∷ []) i ≡ Some c → (slice_get ks i ≡ Some c) ⊎ ((i ≡ length ks) × (k ≡ c))
old-or-new [] k zero c e = inr (refl, same_Some k c e)
old-or-new [] k (suc i) c e = absurd (cc)
old-or-new (x ∷ xs) k zero c e = inl e
old-or-new (x ∷ xs) k (suc i) c e = ⊎_elim (λ h. inl h) (λ h. inr (ap suc h.0, h.1)) (old-or-new xs k i c e)

found : (ks : List Canon) (k : Canon) → list_any (same_canon k) ks ≡ true → (i : ℕ) × (slice_get ks i ≡ Some k)
found [] k h = absurd (cc)
found (x ∷ xs) k h =
    ⊎_elim (λ e. (zero, ap (λ (c : Canon). Some c) (sym ((canon-Decides k x).0 e)))) (λ e. let p = found xs k e in (suc p.0, p.1)) (or_cases (same_canon k x) (list_any (same_canon k) xs) h)

-- the keys with one more
abbrev with_key : Bool → List Canon → Canon → List Canon
with_key b ks k = cond b ks (ks ++ k ∷ [])

stays : (b : Bool) (ks : List Canon) (k : Canon) (i : ℕ) (c : Canon) → slice_get ks i ≡ Some c → slice_get (with_key b ks k) i ≡ Some c
stays true ks k i c e = e
stays false ks k i c e = at-old ks k i c e

stays-all : (ks cs : List Canon) (i : ℕ) (c : Canon) → slice_get ks i ≡ Some c → slice_get (insert_all same_canon ks cs) i ≡ Some c
stays-all ks [] i c e = e
stays-all ks (x ∷ xs) i c e = stays-all (insert_key same_canon ks x) xs i c (stays (list_any (same_canon x) ks) ks x i c e)

-- a key's place is no further behind than the keys before it reach
place : (ks : List Canon) (k : Canon) → (i : ℕ) × (i ≤ length ks) × (slice_get (insert_key same_canon ks k) i ≡ Some k)
place ks k = go (list_any (same_canon k) ks) refl
  where
    go : (b : Bool) → list_any (same_canon k) ks ≡ b → (i : ℕ) × (i ≤ length ks) × (slice_get (with_key b ks k) i ≡ Some k)
    go true e =
        let p = found ks k e in
        let h = slice_get_within ks p.0 k p.1 in
        (p.0, omega arith, p.1)
    go false e = (length ks, omega arith, at-new ks k)

pub old-or-same : (b : Bool) (ks : List Canon) (k : Canon) (i : ℕ) (c : Canon) → slice_get (with_key b ks k) i ≡ Some c → (slice_get ks i ≡ Some c) ⊎ (k ≡ c)
old-or-same true ks k i c e = inl e
old-or-same false ks k i c e = ⊎_elim (λ h. inl h) (λ h. inr h.1) (old-or-new ks k i c e)

-- each key has one place
abbrev Unique : List Canon → Type 0
Unique ks = (i j : ℕ) (c : Canon) → slice_get ks i ≡ Some c → slice_get ks j ≡ Some c → i ≡ j

unique-more : (ks : List Canon) (k : Canon) → Unique ks → Unique (insert_key same_canon ks k)
unique-more ks k u = go (list_any (same_canon k) ks) refl
  where
    -- the new key is none of the old ones
    none : list_any (same_canon k) ks ≡ false → (i : ℕ) (c : Canon) → slice_get ks i ≡ Some c → k ≡ c → ⊥
    none e i c at same =
        let h = any_passes_from_place (same_canon k) ks i c at ((canon-Decides k c).1 same) in
        absurd (cc)

    go : (b : Bool) → list_any (same_canon k) ks ≡ b → Unique (with_key b ks k)
    go true e i j c p q = u i j c p q
    go false e i j c p q =
        ⊎_elim
        (λ a. ⊎_elim (λ b. u i j c a b) (λ b. absurd (none e i c a b.1)) (old-or-new ks k j c q))
        (λ a. ⊎_elim (λ b. absurd (none e j c b a.1)) (λ b. a.0 ∙ sym b.0) (old-or-new ks k j c q))
        (old-or-new ks k i c p)

unique-all : (ks cs : List Canon) → Unique ks → Unique (insert_all same_canon ks cs)
unique-all ks [] u = u
unique-all ks (x ∷ xs) u = unique-all (insert_key same_canon ks x) xs (unique-more ks x u)

-- ---- verdicts

pub there : {X : Type 0} (xs : List X) (i : ℕ) → i < length xs → (x : X) × (slice_get xs i ≡ Some x)
there [] i h = absurd (omega arith)
there (x ∷ xs) zero h = (x, refl)
there (x ∷ xs) (suc i) h = there xs i (omega arith)

pub fails-alike : (names : List Bytes) (v : Verdict) → shows_failure (shown_of names (came_of v)) ≡ is_failed v
fails-alike names (verdict.Proved p turns true) = refl
fails-alike names (verdict.Proved p turns false) = refl
fails-alike names (verdict.Saturated values turns) = refl
fails-alike names (verdict.Spent turns) = refl
fails-alike names verdict.Memory = refl

-- ---- leaves in order

module _ (stop : Bool) (least : Option ℕ) (jobs : List Canon) (verdicts : List (Option Verdict)) (came : Canon → Came) (es : List Entry)
    (are : AreVerdicts stop least jobs verdicts) (to : ComeTo came jobs verdicts) (unique : Unique jobs) where
  -- where failures stop the run, none of the first jobs has failed
  abbrev NoneFailed : List Canon → Type 0
  NoneFailed ks = stop ≡ true → (k : ℕ) (c : Canon) (v : Verdict) → slice_get ks k ≡ Some c → slice_get verdicts k ≡ Some (Some v) → is_failed v ≡ false

  -- a job that is not behind those that have not failed has a verdict
  has-verdict : (ks : List Canon) (j : ℕ) (c : Canon) → NoneFailed ks → j ≤ length ks → slice_get jobs j ≡ Some c → (v : Verdict) × (slice_get verdicts j ≡ Some (Some v))
  has-verdict ks j c none low at = go (slice_get verdicts j) refl (slice_get_within jobs j c at)
    where
      failed : (k : ℕ) (v : Option Verdict) → k < j → stop ≡ true → slice_get verdicts k ≡ Some v → has_failed v ≡ true → ⊥
      failed k None l s e f = absurd (cc)
      failed k (Some v) l s e f =
          let p = there ks k (omega arith) in
          both_ways (is_failed v) (none s k p.0 v p.1 e) f

      go : (o : Option (Option Verdict)) → slice_get verdicts j ≡ o → j < length jobs → (v : Verdict) × (o ≡ Some (Some v))
      go (Some (Some v)) e h = (v, refl)
      go (Some None) e h =
          let skipped = are.skipped j e in
          let worst = subst (λ l. IsLeast l verdicts) skipped.2 are.least in
          absurd (failed skipped.1 worst.0 skipped.3 skipped.0 worst.1 worst.2)
      go None e h =
          let p = there verdicts j (omega (arith, are.count)) in
          absurd (cc)

  -- a further job whose leaf does not end the run
  none-more : (ks : List Canon) (c : Canon) (j : ℕ) (v : Verdict) (names : List Bytes) → NoneFailed ks → slice_get jobs j ≡ Some c → slice_get verdicts j ≡ Some (Some v)
      → ((i : ℕ) (k : Canon) → slice_get (insert_key same_canon ks c) i ≡ Some k → slice_get jobs i ≡ Some k) → stops stop (shown_of names (came_of v)) ≡ false
      → NoneFailed (insert_key same_canon ks c)
  none-more ks c j v names none at told kept goes s k d w now e =
      ⊎_elim
      (λ old. none s k d w old e)
      (λ same.
      let here : slice_get jobs j ≡ Some d = at ∙ ap (λ (x : Canon). Some x) same in
      let number : k ≡ j = unique k j d (kept k d now) here in
      let verdict : v ≡ w = same_Some v w (same_Some (Some v) (Some w) (sym told ∙ ap (slice_get verdicts) (sym number) ∙ e)) in
      ap is_failed (sym verdict) ∙ sym (fails-alike names v) ∙ subst (λ b. (b && shows_failure (shown_of names (came_of v))) ≡ false) s goes)
      (old-or-same (list_any (same_canon c) ks) ks c k d now)

  leaves-meet : (ks : List Canon) (ns : List Named) (js : List ℕ) → NoneFailed ks → insert_all same_canon ks (canons_of ns) ≡ jobs → ArePlaces jobs (canons_of ns) js
      → Meets (stops stop) came es ns (shown_all es verdicts (names_of ns) js)
  leaves-meet ks [] js none e h = tt
  leaves-meet ks (n ∷ ns) [] none e h = absurd h
  leaves-meet ks (n ∷ ns) (j ∷ js) none e h =
      let next = insert_key same_canon ks n.canon in
      let names = map (symbol_text es) n.names in
      let kept : (i : ℕ) (k : Canon) → slice_get next i ≡ Some k → slice_get jobs i ≡ Some k = λ i k at. subst (λ l. slice_get l i ≡ Some k) e (stays-all next (canons_of ns) i k at) in
      let p = place ks n.canon in
      let same : p.0 ≡ j = unique p.0 j n.canon (kept p.0 n.canon p.2) h.0 in
      let v = has-verdict ks j n.canon none (omega (arith, p.1)) h.0 in (
        ap (shown_of names) (ap came_found v.1 ∙ sym (to j n.canon v.0 h.0 v.1)),
        λ goes. leaves-meet next ns js (none-more ks n.canon j v.0 names none h.0 v.1 kept (ap (λ o. stops stop (shown_of names (came_found o))) (sym v.1) ∙ goes)) e h.1,
      )

-- what is shown of the jobs of a plan meets the forms that were planned
pub plan-meets : (stop : Bool) (least : Option ℕ) (verdicts : List (Option Verdict)) (came : Canon → Came) (es : List Entry) (forms : List Named) (plan : Plan)
    → IsPlanned forms plan → AreVerdicts stop least plan.jobs.items verdicts → ComeTo came plan.jobs.items verdicts
    → Meets (stops stop) came es forms (shown_all es verdicts plan.names.items plan.of_leaf.items)
plan-meets stop least verdicts came es forms plan planned are to =
    let unique = subst Unique (sym planned.jobs) (unique-all [] (canons_of forms) (λ i j c p q. absurd (cc))) in
    subst (λ ns. Meets (stops stop) came es forms (shown_all es verdicts ns plan.of_leaf.items)) (sym planned.names)
    (leaves-meet stop least plan.jobs.items verdicts came es are to unique [] forms plan.of_leaf.items (λ s k c v at e. absurd (cc)) (sym planned.jobs) planned.places)
