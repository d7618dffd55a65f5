-- Jobs behind a failed one of a worker's own are skipped.
use Rattle.std.proofs.Common.{◌≡◌, ℕ, ◌≤◌, ◌<◌, Bool, true, false, List, [], ◌∷◌, ◌++◌, Option, None, sym, refl, ap, arith, cond, subst}
use Rattle.std.specs.List.{AllByRecursion, flat_map}
use Rattle.pool_core.specs.Numbers.{times, IsRising}
use Rattle.claim_board.proofs.Lists.{times_append}
use Rattle.proof_cache.specs.declared.verdict.Verdict.{Verdict}
use Rattle.worker_map.specs.Answers.{has_failed, noted_by}
use Rattle.worker_map.specs.Crew.{jobs_in, SkipsAfter, NoneUnder}
use Rattle.worker_map.specs.Settled.{SkipsBehind}
use Rattle.worker_map.proofs.Rising.{all_snoc, at_least}

abbrev IsSkipped : ℕ × Option Verdict → Type 0
IsSkipped e = e.1 ≡ None

noted_here : (v : ℕ × Option Verdict) (ns : List ℕ) → has_failed v.1 ≡ true → 0 < times v.0 (noted_by v ++ ns)
noted_here v ns is =
    let e = ap (λ b. times v.0 (cond b (v.0 ∷ []) [] ++ ns)) is in
    let one : 0 < times v.0 (v.0 ∷ ns) = grind arith in
    omega arith

noted_later : (k : ℕ) (v : ℕ × Option Verdict) (ns : List ℕ) → 0 < times k ns → 0 < times k (noted_by v ++ ns)
noted_later k v ns some = let sum = times_append k (noted_by v) ns in omega arith

-- one job more, which is skipped where a smaller one has failed
pub skips_more : (vs : List (ℕ × Option Verdict)) (v : ℕ × Option Verdict) → SkipsAfter vs → AllByRecursion (λ y. y < v.0) (jobs_in vs)
    → ((k : ℕ) → k < v.0 → 0 < times k (flat_map noted_by vs) → v.1 ≡ None) → SkipsAfter (vs ++ v ∷ [])
skips_more [] v h below skips = ((λ _. tt), tt)
skips_more (u ∷ us) v h below skips = (
  (λ failed. all_snoc IsSkipped us v (h.0 failed) (skips u.0 below.0 (noted_here u (flat_map noted_by us) failed))),
  skips_more us v h.1 below.1 (λ k lt some. skips k lt (noted_later k u (flat_map noted_by us) some)),
)

none_below : (k low : ℕ) (vs : List (ℕ × Option Verdict)) → k < low → AllByRecursion (λ y. low ≤ y) (jobs_in vs) → times k (flat_map noted_by vs) ≡ 0
none_below k low [] lt h = refl
none_below k low (v ∷ vs) lt h =
    let rest = none_below k low vs lt h.1 in
    let sum = times_append k (noted_by v) (flat_map noted_by vs) in
    let le : low ≤ v.0 = h.0 in
    let none = own (has_failed v.1) le in
    omega arith
  where
    own : (b : Bool) → low ≤ v.0 → times k (cond b (v.0 ∷ []) []) ≡ 0
    own true le = let lt : k < v.0 = omega arith in grind arith
    own false le = refl

pub none_under : (n : ℕ) (ns : List ℕ) → AllByRecursion (λ y. n ≤ y) ns → NoneUnder n ns
none_under n [] h k lt = refl
none_under n (y ∷ ns) h k lt = let rest = none_under n ns h.1 k lt in let le : n ≤ y = h.0 in grind arith

-- where the first has failed, all behind it are skipped
skips_all : (noted : List ℕ) (vs : List (ℕ × Option Verdict)) → AllByRecursion IsSkipped vs → AllByRecursion (SkipsBehind noted) vs
skips_all noted [] h = tt
skips_all noted (v ∷ vs) h = ((λ k lt some. h.0), skips_all noted vs h.1)

-- each job of a rising list is skipped where a smaller one of it has failed
pub skips_behind : (vs : List (ℕ × Option Verdict)) → IsRising (jobs_in vs) → SkipsAfter vs → AllByRecursion (SkipsBehind (flat_map noted_by vs)) vs
skips_behind [] rising h = tt
skips_behind (v ∷ vs) rising h = (
  (λ k lt some. let none = none_below k v.0 (v ∷ vs) lt ((let le : v.0 ≤ v.0 = omega arith in le), at_least v.0 (jobs_in vs) rising.0) in absurd (omega arith)),
  by_test (has_failed v.1) refl (skips_behind vs rising.1 h.1),
)
  where
    by_test : (b : Bool) → has_failed v.1 ≡ b → AllByRecursion (SkipsBehind (flat_map noted_by vs)) vs → AllByRecursion (SkipsBehind (noted_by v ++ flat_map noted_by vs)) vs
    by_test true is rest = skips_all (noted_by v ++ flat_map noted_by vs) vs (h.0 is)
    by_test false is rest =
        subst (λ (b : Bool). AllByRecursion (SkipsBehind (cond b (v.0 ∷ []) [] ++ flat_map noted_by vs)) vs) (sym is) rest
