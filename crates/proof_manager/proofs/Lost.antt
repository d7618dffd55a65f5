-- The jobs whose searches found no memory, and what all jobs came to.
use Rattle.std.specs.Prelude.{◌≡◌, if◌then◌else◌, cond, ℕ, zero, suc, Bool, true, false, ◌||◌, List, [], ◌∷◌, ◌++◌, Option, Some, slice_get}
use Rattle.std.specs.List.{list_any}
use Rattle.std.proofs.Common.{refl, ap, sym, subst, ◌∙◌}
use Rattle.std.proofs.lemmas.Bool.{or_parts}
use Rattle.indexmap.specs.IndexSet.{insert_key, insert_all}
use Rattle.core_expr.specs.declared.canon.Canon.{Canon}
use Rattle.core_expr.specs.Equality.{same_canon}
use Rattle.core_expr.specs.Keys.{canon-Decides}
use Rattle.proof_cache.specs.declared.verdict.Verdict.{Verdict}
use Rattle.proof_cache.specs.declared.verdict.Verdict.TheVariants as verdict
use Rattle.proof_cache.specs.Verdicts.{Allowed}
use Rattle.leaf_prover.specs.Provers.{answered, IsAnswered, Says, RightIsAnswered}
use Rattle.leaf_prover.specs.Provers.{proved_by as answered_so}
use Rattle.worker_map.specs.Answers.{IsVerdict}
use Rattle.worker_map.specs.Stops.{AllGiven}
use Rattle.leaf_jobs.specs.Came.{with_lost, came_of, proved_by}
use Rattle.leaf_jobs.specs.Came.Came.{lost}
use Rattle.leaf_jobs.specs.Plans.{ComeTo}
use Rattle.proof_manager.specs.Runs.{Proofs, as_came, came}

-- ---- the jobs are different

abbrev AreDifferent : List Canon → Type 0
AreDifferent [] = Unit {0}
AreDifferent (k ∷ ks) = (list_any (same_canon k) ks ≡ false) × AreDifferent ks

same-self : (c : Canon) → same_canon c c ≡ true
same-self c = (canon-Decides c c).1 refl

is-same : (a b : Canon) → same_canon a b ≡ true → a ≡ b
is-same a b e = (canon-Decides a b).0 e

none-behind : (k c : Canon) (ks : List Canon) → list_any (same_canon k) ks ≡ false → same_canon k c ≡ false → list_any (same_canon k) (ks ++ c ∷ []) ≡ false
none-behind k c [] h n = ap (λ b. b || false) n
none-behind k c (x ∷ ks) h n =
    let p = or_parts (same_canon k x) (list_any (same_canon k) ks) h in (λ i. p.0 i || none-behind k c ks p.1 n i)

-- a test that is false one way is false the other way
turned : (a b : Canon) → same_canon a b ≡ false → same_canon b a ≡ false
turned a b h = go (same_canon b a) refl
  where
    go : (x : Bool) → same_canon b a ≡ x → x ≡ false
    go false e = refl
    go true e = sym (same-self a) ∙ ap (same_canon a) (sym (is-same b a e)) ∙ h

with-last : (ks : List Canon) (c : Canon) → AreDifferent ks → list_any (same_canon c) ks ≡ false → AreDifferent (ks ++ c ∷ [])
with-last [] c d h = (refl, tt)
with-last (k ∷ ks) c d h =
    let p = or_parts (same_canon c k) (list_any (same_canon c) ks) h in (none-behind k c ks d.0 (turned c k p.0), with-last ks c d.1 p.1)

inserted : (ks : List Canon) (c : Canon) → AreDifferent ks → AreDifferent (insert_key same_canon ks c)
inserted ks c d = go (list_any (same_canon c) ks) refl
  where
    go : (b : Bool) → list_any (same_canon c) ks ≡ b → AreDifferent (if b then ks else ks ++ c ∷ [])
    go true e = d
    go false e = with-last ks c d e

pub all_inserted : (ks cs : List Canon) → AreDifferent ks → AreDifferent (insert_all same_canon ks cs)
all_inserted ks [] d = d
all_inserted ks (c ∷ cs) d = all_inserted (insert_key same_canon ks c) cs (inserted ks c d)

-- ---- the lost jobs

abbrev is_memory : Option Verdict → Bool
is_memory (Some verdict.Memory) = true
is_memory _ = false

-- the job of the form found no memory
abbrev pub is_lost : List Canon → List (Option Verdict) → Canon → Bool
is_lost [] vs c = false
is_lost (k ∷ ks) [] c = false
is_lost (k ∷ ks) (v ∷ vs) c = cond (same_canon k c) (is_memory v) (is_lost ks vs c)

lost-at : (ks : List Canon) (vs : List (Option Verdict)) (j : ℕ) (c : Canon) (v : Verdict) → AreDifferent ks → slice_get ks j ≡ Some c → slice_get vs j ≡ Some (Some v) → is_lost ks vs c ≡ is_memory (Some v)
lost-at [] vs j c v d k e = absurd cc
lost-at (x ∷ ks) [] j c v d k e = absurd cc
lost-at (x ∷ ks) (w ∷ vs) zero c v d k e =
    let same : x ≡ c = cc in
    let here : w ≡ Some v = cc in
    ap (λ b. cond b (is_memory w) (is_lost ks vs c)) (ap (λ y. same_canon y c) same ∙ same-self c) ∙ ap is_memory here
lost-at (x ∷ ks) (w ∷ vs) (suc j) c v d k e =
    ap (λ b. cond b (is_memory w) (is_lost ks vs c)) (other ks j d.0 k) ∙ lost-at ks vs j c v d.1 k e
  where
    other : (ks : List Canon) (j : ℕ) → list_any (same_canon x) ks ≡ false → slice_get ks j ≡ Some c → same_canon x c ≡ false
    other [] j n k = absurd cc
    other (y ∷ ks) zero n k =
        let same : y ≡ c = cc in ap (same_canon x) (sym same) ∙ (or_parts (same_canon x y) (list_any (same_canon x) ks) n).0
    other (y ∷ ks) (suc j) n k = other ks j (or_parts (same_canon x y) (list_any (same_canon x) ks) n).1 k

-- ---- what the jobs came to

kept-or-found : (cached : Bool) (turns : ℕ) → as_came (answered_so cached turns) ≡ proved_by cached turns
kept-or-found true turns = refl
kept-or-found false turns = refl

module _ (ps : Proofs) (n : ℕ) where
  says-came : (c : Canon) (v : Verdict) (b : Bool) → b ≡ is_memory (Some v) → (is_memory (Some v) ≡ false → Says (answered (ps c) n c) v) → (if b then lost else came ps n c) ≡ came_of v
  says-came c (verdict.Proved p turns cached) b e s = ap (λ b. if b then lost else came ps n c) e ∙ ap as_came (s refl) ∙ kept-or-found cached turns
  says-came c (verdict.Saturated values turns) b e s = ap (λ b. if b then lost else came ps n c) e ∙ ap as_came (s refl)
  says-came c (verdict.Spent turns) b e s = ap (λ b. if b then lost else came ps n c) e ∙ ap as_came (s refl)
  says-came c verdict.Memory b e s = ap (λ b. if b then lost else came ps n c) e

  right-says : RightIsAnswered → (c : Canon) (v : Verdict) → Allowed (λ c. IsAnswered (ps c) n c) c v → is_memory (Some v) ≡ false → Says (answered (ps c) n c) v
  right-says law c (verdict.Proved p turns cached) h m = law (ps c) n c (verdict.Proved p turns cached) h
  right-says law c (verdict.Saturated values turns) h m = law (ps c) n c (verdict.Saturated values turns) h
  right-says law c (verdict.Spent turns) h m = law (ps c) n c (verdict.Spent turns) h
  right-says law c verdict.Memory h m = absurd cc

  pub come_to : RightIsAnswered → (ks cs : List Canon) (vs : List (Option Verdict)) → ks ≡ insert_all same_canon [] cs → AllGiven (IsVerdict (λ c. IsAnswered (ps c) n c) ks) vs
      → ComeTo (with_lost (is_lost ks vs) (came ps n)) ks vs
  come_to law ks cs vs e g j c v k at =
      says-came c v (is_lost ks vs c) (lost-at ks vs j c v (subst AreDifferent (sym e) (all_inserted [] cs tt)) k at) (right-says law c v (g j (Some v) at c k))
