-- Noted jobs are among the drawn ones.
use Rattle.std.proofs.Common.{◌≡◌, ℕ, ◌≤◌, ◌<◌, Bool, true, false, List, [], ◌∷◌, ◌++◌, Option, sym, refl, ap, ◌∙◌, arith, cond, append_assoc, append-nil}
use Rattle.std.specs.List.{AllByRecursion, flat_map}
use Rattle.claim_board.specs.Views.{times}
use Rattle.proof_cache.specs.declared.verdict.Verdict.{Verdict}
use Rattle.worker_map.specs.Answers.{has_failed, noted_by}
use Rattle.worker_map.specs.Crew.{jobs_in, noted_of, IsBehind}

pub none_of : (n : ℕ) (xs : List ℕ) → AllByRecursion (λ y. y < n) xs → times n xs ≡ 0
none_of n [] h = refl
none_of n (x ∷ xs) h = let lt : x < n = h.0 in let rest = none_of n xs h.1 in grind arith

noted_below : (n : ℕ) (vs : List (ℕ × Option Verdict)) → AllByRecursion (λ y. y < n) (jobs_in vs) → AllByRecursion (λ y. y < n) (flat_map noted_by vs)
noted_below n [] h = tt
noted_below n (v ∷ vs) h = by_test (has_failed v.1) (noted_below n vs h.1)
  where
    by_test : (b : Bool) → AllByRecursion (λ y. y < n) (flat_map noted_by vs) → AllByRecursion (λ y. y < n) (cond b (v.0 ∷ []) [] ++ flat_map noted_by vs)
    by_test true rest = (h.0, rest)
    by_test false rest = rest

pub new_job : (stop : Bool) (n : ℕ) (vs : List (ℕ × Option Verdict)) → AllByRecursion (λ y. y < n) (jobs_in vs) → times n (noted_of stop vs) ≡ 0
new_job true n vs h = none_of n (flat_map noted_by vs) (noted_below n vs h)
new_job false n vs h = refl

flat_snoc : (vs : List (ℕ × Option Verdict)) (v : ℕ × Option Verdict) → flat_map noted_by (vs ++ v ∷ []) ≡ (flat_map noted_by vs ++ noted_by v)
flat_snoc [] v = append-nil (noted_by v)
flat_snoc (u ∷ us) v = ap (λ t. noted_by u ++ t) (flat_snoc us v) ∙ sym (append_assoc (noted_by u) (flat_map noted_by us) (noted_by v))

pub noted_snoc : (stop : Bool) (vs : List (ℕ × Option Verdict)) (v : ℕ × Option Verdict) → noted_of stop (vs ++ v ∷ []) ≡ noted_of stop vs ++ cond stop (noted_by v) []
noted_snoc true vs v = flat_snoc vs v
noted_snoc false vs v = refl

pub behind_more : (stop : Bool) (old new : ℕ) → new ≤ old → (vs : List (ℕ × Option Verdict)) → AllByRecursion (IsBehind stop old) vs → AllByRecursion (IsBehind stop new) vs
behind_more stop old new le [] h = tt
behind_more stop old new le (v ∷ vs) h = ((λ e. let b = h.0 e in (b.0, (let lt = b.1 in omega arith))), behind_more stop old new le vs h.1)

pub times_last : (n : ℕ) (xs : List ℕ) → 0 < times n (xs ++ n ∷ [])
times_last n [] = grind arith
times_last n (x ∷ xs) = let rest = times_last n xs in omega arith

pub all_last : {X : Type 0} (P : X → Type 0) (xs : List X) (y : X) → AllByRecursion P (xs ++ y ∷ []) → AllByRecursion P xs × P y
all_last P [] y h = (tt, h.0)
all_last P (x ∷ xs) y h = let rest = all_last P xs y h.1 in ((h.0, rest.0), rest.1)
