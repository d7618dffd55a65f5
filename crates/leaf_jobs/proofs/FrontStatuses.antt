-- The theorems that are reported are the first ones, and one of them is proved only where it is proved by all its leaves.
use Rattle.std.specs.Prelude.{◌≡◌, ℕ, Bool, true, false, fold, List, [], ◌∷◌, ◌++◌}
use Rattle.std.proofs.Common.{refl, ap, sym, subst, append-nil, arith}
use Rattle.std.proofs.lemmas.Bool.{and_parts}
use Rattle.proof_contexts.specs.Statuses.{Verdict, Status, worst, status, is_proved}
use Rattle.status_report.specs.declared.table.Shown.{Shown}
use Rattle.status_report.specs.declared.table.Shown.TheVariants as shown
use Rattle.status_report.specs.declared.table.LeafIn.{LeafIn}
use Rattle.status_report.specs.declared.table.TheoremIn.{TheoremIn}
use Rattle.status_report.specs.declared.table.ModuleIn.{ModuleIn}
use Rattle.status_report.specs.Statuses.{Seen, nothing, verdict_of, leaf_verdicts, status_in, see, statuses_from}
use Rattle.status_report.specs.Report.{all_theorems}
use Rattle.leaf_jobs.specs.Stopping.{has_failed, front_and, front, cut_leaf, with_leaves, cut_theorem, with_theorems, cut_module, stops}
use Rattle.leaf_jobs.specs.Laws.{StatusesOfFront, FrontsAreProved}

-- ---- a theorem whose last leaf has failed is not proved

by-leaves : (may : ℕ → Bool) (xs : List ℕ) (v : Verdict) → is_proved (status may xs v) ≡ true → v ≡ Verdict.Proved
by-leaves may xs Verdict.Temporal h = absurd (cc)
by-leaves may xs Verdict.Memory h = absurd (cc)
by-leaves may xs Verdict.Unproved h = absurd (cc)
by-leaves may xs Verdict.Missing h = absurd (cc)
by-leaves may xs Verdict.Omitted h = absurd (cc)
by-leaves may xs Verdict.Proved h = refl

failed-unproved : (s : Shown) → has_failed s ≡ true → verdict_of s ≡ Verdict.Proved → ⊥
failed-unproved (shown.Proved turns) f p = absurd (cc)
failed-unproved shown.Cached f p = absurd (cc)
failed-unproved (shown.Saturated turns values) f p = absurd (cc)
failed-unproved (shown.Spent turns) f p = absurd (cc)
failed-unproved shown.Memory f p = absurd (cc)
failed-unproved shown.Temporal f p = absurd (cc)
failed-unproved shown.Shape f p = absurd (cc)
failed-unproved shown.Omitted f p = absurd (cc)
failed-unproved shown.Missing f p = absurd (cc)

-- where the worst of some is Proved, each is
first-proved : (v : Verdict) (vs : List Verdict) → worst (v ∷ vs) ≡ Verdict.Proved → (v ≡ Verdict.Proved) × (worst vs ≡ Verdict.Proved)
first-proved Verdict.Temporal vs h = absurd (cc)
first-proved Verdict.Memory vs h = absurd (grind arith)
first-proved Verdict.Unproved vs h = absurd (grind arith)
first-proved Verdict.Missing vs h = absurd (grind arith)
first-proved Verdict.Omitted vs h = absurd (grind arith)
first-proved Verdict.Proved vs h = (refl, h)

module _ (stop : Bool) where
  leaf-failed : (s : Shown) → stops stop s ≡ true → verdict_of s ≡ Verdict.Proved → ⊥
  leaf-failed s h p = failed-unproved s (and_parts stop (has_failed s) h).1 p

  leaves-failed : (ls : List LeafIn) → (front (cut_leaf (stops stop)) ls).1 ≡ true → worst (leaf_verdicts (front (cut_leaf (stops stop)) ls).0) ≡ Verdict.Proved → ⊥
  leaves-failed [] h p = absurd (cc)
  leaves-failed (l ∷ ls) h p = go (stops stop l.verdict) (front (cut_leaf (stops stop)) ls) (leaf-failed l.verdict) (leaves-failed ls) h p
    where
      go : (b : Bool) (more : List LeafIn × Bool) → (b ≡ true → verdict_of l.verdict ≡ Verdict.Proved → ⊥) → (more.1 ≡ true → worst (leaf_verdicts more.0) ≡ Verdict.Proved → ⊥)
          → (front_and (l, b) more).1 ≡ true → worst (leaf_verdicts (front_and (l, b) more).0) ≡ Verdict.Proved → ⊥
      go true more f k h p = f refl (first-proved (verdict_of l.verdict) [] p).0
      go false more f k h p = k h (first-proved (verdict_of l.verdict) (leaf_verdicts more.0) p).1

  theorem-failed : (s : Seen) (t : TheoremIn) → (cut_theorem (stops stop) t).1 ≡ true → is_proved (status_in s (cut_theorem (stops stop) t).0) ≡ true → ⊥
  theorem-failed s t h p =
      leaves-failed t.leaves h (by-leaves s.done t.cited (worst (leaf_verdicts (front (cut_leaf (stops stop)) t.leaves).0)) p)

-- ---- the first of statuses

front-longer : (rs ss more : List Status) → StatusesOfFront rs ss → StatusesOfFront rs (ss ++ more)
front-longer [] ss more h = tt
front-longer (r ∷ rs) [] more h = absurd h
front-longer (r ∷ rs) (s ∷ ss) more h = (h.0, front-longer rs ss more h.1)

statuses-append : (s : Seen) (ts us : List TheoremIn) → statuses_from s (ts ++ us) ≡ statuses_from s ts ++ statuses_from (fold see s ts) us
statuses-append s [] us = refl
statuses-append s (t ∷ ts) us = ap (λ ss. status_in s t ∷ ss) (statuses-append (see s t) ts us)

-- behind any theorems, the statuses of these are the first of the statuses of those
abbrev AreFirst : List TheoremIn → List TheoremIn → Type 0
AreFirst rs ts = (s : Seen) → StatusesOfFront (statuses_from s rs) (statuses_from s ts)

first-longer : (rs ts us : List TheoremIn) → AreFirst rs ts → AreFirst rs (ts ++ us)
first-longer rs ts us h s = subst (StatusesOfFront (statuses_from s rs)) (sym (statuses-append s ts us)) (front-longer (statuses_from s rs) (statuses_from s ts) (statuses_from (fold see s ts) us) (h s))

first-behind : (ts rs us : List TheoremIn) → AreFirst rs us → AreFirst (ts ++ rs) (ts ++ us)
first-behind [] rs us h s = h s
first-behind (t ∷ ts) rs us h s = ((λ p. p), first-behind ts rs us h (see s t))

-- ---- the theorems that are reported

-- what is not stopped is whole
whole-one : {A : Type 0} (x : A) (xs : List A) (r : A × Bool) (w : List A × Bool) → (r.1 ≡ false → r.0 ≡ x) → (w.1 ≡ false → w.0 ≡ xs) → (front_and r w).1 ≡ false → (front_and r w).0 ≡ x ∷ xs
whole-one {A = A} x xs r w h k = go r.0 r.1 h
  where
    go : (y : A) (b : Bool) → (b ≡ false → y ≡ x) → (front_and (y, b) w).1 ≡ false → (front_and (y, b) w).0 ≡ x ∷ xs
    go y true h e = absurd (cc)
    go y false h e = λ i. h refl i ∷ k e i

pub whole-front : {A : Type 0} (cut : A → A × Bool) → ((x : A) → (cut x).1 ≡ false → (cut x).0 ≡ x) → (xs : List A) → (front cut xs).1 ≡ false → (front cut xs).0 ≡ xs
whole-front cut h [] e = refl
whole-front cut h (x ∷ xs) e = whole-one x xs (cut x) (front cut xs) (h x) (whole-front cut h xs) e

module _ (stop : Bool) where
  theorem-whole : (t : TheoremIn) → (cut_theorem (stops stop) t).1 ≡ false → (cut_theorem (stops stop) t).0 ≡ t
  theorem-whole t e = ap (λ ls. (with_leaves (stops stop) t (ls, false)).0) (whole-front (cut_leaf (stops stop)) (λ l e. refl) t.leaves e)

  pub module-whole : (m : ModuleIn) → (cut_module (stops stop) m).1 ≡ false → (cut_module (stops stop) m).0 ≡ m
  module-whole m e = ap (λ ts. (with_theorems (stops stop) m (ts, false)).0) (whole-front (cut_theorem (stops stop)) theorem-whole m.theorems e)

  theorems-first : (ts : List TheoremIn) → AreFirst (front (cut_theorem (stops stop)) ts).0 ts
  theorems-first [] s = tt
  theorems-first (t ∷ ts) s = go (cut_theorem (stops stop) t).0 (cut_theorem (stops stop) t).1 (front (cut_theorem (stops stop)) ts) (theorem-failed stop s t) (theorem-whole t) (theorems-first ts)
    where
      go : (r : TheoremIn) (b : Bool) (more : List TheoremIn × Bool) → (b ≡ true → is_proved (status_in s r) ≡ true → ⊥) → (b ≡ false → r ≡ t) → AreFirst more.0 ts
          → StatusesOfFront (statuses_from s (front_and (r, b) more).0) (statuses_from s (t ∷ ts))
      go r true more f w k = ((λ p. absurd (f refl p)), tt)
      go r false more f w k = subst (λ x. StatusesOfFront (statuses_from s (x ∷ more.0)) (statuses_from s (t ∷ ts))) (sym (w refl)) ((λ p. p), k (see s t))

  modules-first : (ms : List ModuleIn) → AreFirst (all_theorems (front (cut_module (stops stop)) ms).0) (all_theorems ms)
  modules-first [] s = tt
  modules-first (m ∷ ms) s = go (cut_module (stops stop) m).0 (cut_module (stops stop) m).1 (front (cut_module (stops stop)) ms) (theorems-first m.theorems) (module-whole m) (modules-first ms) s
    where
      go : (r : ModuleIn) (b : Bool) (more : List ModuleIn × Bool) → AreFirst r.theorems m.theorems → (b ≡ false → r ≡ m) → AreFirst (all_theorems more.0) (all_theorems ms)
          → AreFirst (all_theorems (front_and (r, b) more).0) (all_theorems (m ∷ ms))
      go r true more f w k = subst (λ ts. AreFirst ts (all_theorems (m ∷ ms))) (sym (append-nil r.theorems)) (first-longer r.theorems m.theorems (all_theorems ms) f)
      go r false more f w k = subst (λ x. AreFirst (all_theorems (x ∷ more.0)) (all_theorems (m ∷ ms))) (sym (w refl)) (first-behind m.theorems (all_theorems more.0) (all_theorems ms) k)

pub fronts_are_proved : FrontsAreProved
fronts_are_proved stop ms = modules-first stop ms nothing
