-- A table that is filled, and entries that are settled.
use Rattle.std.proofs.Common.{◌≡◌, ℕ, zero, suc, ◌+◌, ◌≤◌, ◌<◌, ◌⊎◌, inl, inr, Bool, true, false, ◌==◌, List, [], ◌∷◌, ◌++◌, length, Option, Some, sym, refl, ap, ◌∙◌, arith, cond, subst}
use Rattle.std.specs.Prelude.{slice_get, slice_set, nat_lt}
use Rattle.std.proofs.lemmas.List.{map-append}
use Rattle.std.proofs.lemmas.Bool.{cases_order}
use Rattle.std.specs.List.{AllByRecursion, flat_map}
use Rattle.pool_core.specs.Numbers.{times, times_all}
use Rattle.claim_board.specs.declared.view.View.{View}
use Rattle.claim_board.proofs.Lists.{times_append, times_all_append}
use Rattle.proof_cache.specs.declared.verdict.Verdict.{Verdict}
use Rattle.worker_map.specs.Answers.{has_failed, noted_by}
use Rattle.worker_map.specs.Crew.{jobs_in}
use Rattle.worker_map.specs.Settled.{IsSettled, Pending, lists_of}
use Rattle.std.specs.Global.{Vec}

module _ {X : Type 0} where
  get_other : (xs : List X) (i j : ℕ) (y v : X) → (i ≡ j → ⊥) → slice_get (slice_set xs i y) j ≡ Some v → slice_get xs j ≡ Some v
  get_other [] i j y v ne e = e
  get_other (x ∷ xs) zero zero y v ne e = absurd (ne refl)
  get_other (x ∷ xs) zero (suc j) y v ne e = e
  get_other (x ∷ xs) (suc i) zero y v ne e = e
  get_other (x ∷ xs) (suc i) (suc j) y v ne e = get_other xs i j y v (λ s. ne (ap suc s)) e

  get_same : (xs : List X) (i : ℕ) (y v : X) → slice_get (slice_set xs i y) i ≡ Some v → y ≡ v
  get_same [] i y v e = absurd (cc)
  get_same (x ∷ xs) zero y v e = cc
  get_same (x ∷ xs) (suc i) y v e = get_same xs i y v e

-- one verdict more in the table
pub put_one : (stop : Bool) (answers : ℕ → Verdict → Type 0) (seat : View) (table : List (Option Verdict)) (rest : List (ℕ × Option Verdict)) (job : ℕ) (verdict : Option Verdict) (others : ℕ → ℕ)
    → IsSettled stop answers seat (job, verdict) → Pending stop answers seat (λ x. times x (jobs_in (rest ++ (job, verdict) ∷ [])) + others x) table
    → Pending stop answers seat (λ x. times x (jobs_in rest) + others x) (slice_set table job verdict)
put_one stop answers seat table rest job verdict others settled h j v at none = by_order (cases_order job j)
  where
    other : (job ≡ j → ⊥) → times j (job ∷ []) ≡ 0 → IsSettled stop answers seat (j, v)
    other ne apart =
        h j v (get_other table job j verdict v ne at)
        (let jobs = ap (times j) (map-append (λ (u : ℕ × Option Verdict). u.0) rest ((job, verdict) ∷ [])) in
        let sum = times_append j (jobs_in rest) (job ∷ []) in
        omega arith)

    by_order : (job ≡ j) ⊎ ((job < j) ⊎ (j < job)) → IsSettled stop answers seat (j, v)
    by_order (inl same) =
        let is = get_same table job verdict v (subst (λ k. slice_get (slice_set table job verdict) k ≡ Some v) (sym same) at) in
        subst (λ k. IsSettled stop answers seat (k, v)) same (subst (λ u. IsSettled stop answers seat (job, u)) is settled)
    by_order (inr (inl lt)) = other (λ s. absurd (omega arith)) (grind arith)
    by_order (inr (inr gt)) = other (λ s. absurd (omega arith)) (grind arith)

abbrev one : Bool → ℕ
one b = cond b 1 0

abbrev fails_at : ℕ → List (ℕ × Option Verdict) → ℕ
fails_at x es = times x (flat_map noted_by es)

abbrev pub drawn_at : ℕ → List (ℕ × Option Verdict) → ℕ
drawn_at x es = times x (jobs_in es)

fails_cons : (x : ℕ) (e : ℕ × Option Verdict) (es : List (ℕ × Option Verdict)) → fails_at x (e ∷ es) ≡ cond (has_failed e.1) (one (e.0 == x)) 0 + fails_at x es
fails_cons x e es = by_test (has_failed e.1)
  where
    by_test : (b : Bool) → times x (cond b (e.0 ∷ []) [] ++ flat_map noted_by es) ≡ cond b (one (e.0 == x)) 0 + fails_at x es
    by_test true = omega arith
    by_test false = omega arith

part : (b : Bool) (n : ℕ) → cond b n 0 ≤ n
part true n = omega arith
part false n = omega arith

pub fails_most : (x : ℕ) (es : List (ℕ × Option Verdict)) → fails_at x es ≤ drawn_at x es
fails_most x [] = omega arith
fails_most x (e ∷ es) =
    let rest = fails_most x es in
    let here = fails_cons x e es in
    let one = part (has_failed e.1) (one (e.0 == x)) in
    omega arith

-- each entry of a list has failed just where its job is noted: noted counts all noted jobs, of which the list's are some, and no job is drawn twice
pub failed_noted : (noted : ℕ → ℕ) (es : List (ℕ × Option Verdict)) → ((x : ℕ) → fails_at x es ≤ noted x) → ((x : ℕ) → noted x + drawn_at x es ≤ fails_at x es + 1)
    → AllByRecursion (λ e. has_failed e.1 ≡ nat_lt 0 (noted e.0)) es
failed_noted noted [] lo hi = tt
failed_noted noted (e ∷ es) lo hi = (
  here (has_failed e.1) refl,
  failed_noted noted es
      (λ x. let l = lo x in let c = fails_cons x e es in omega arith)
      (λ x. let h = hi x in let c = fails_cons x e es in let p = part (has_failed e.1) (one (e.0 == x)) in omega arith),
)
  where
    own : one (e.0 == e.0) ≡ one true
    own = grind arith

    here : (b : Bool) → has_failed e.1 ≡ b → has_failed e.1 ≡ nat_lt 0 (noted e.0)
    here true is =
        let l = lo e.0 in
        let c = fails_cons e.0 e es ∙ ap (λ b. cond b (one (e.0 == e.0)) 0 + fails_at e.0 es) is in
        let o = own in
        let some : 0 < noted e.0 = omega arith in
        let now : nat_lt 0 (noted e.0) ≡ true = grind arith in
        is ∙ sym now
    here false is =
        let h = hi e.0 in
        let c = fails_cons e.0 e es ∙ ap (λ b. cond b (one (e.0 == e.0)) 0 + fails_at e.0 es) is in
        let o = own in
        let m = fails_most e.0 es in
        let none : noted e.0 ≡ 0 = omega arith in
        let now : nat_lt 0 (noted e.0) ≡ false = grind arith in
        is ∙ sym now

pub none_left : (x : ℕ) (es : List (ℕ × Option Verdict)) → length es ≡ 0 → times x (jobs_in es) ≡ 0
none_left x [] e = refl
none_left x (u ∷ us) e = absurd (omega arith)

pub none_lists : (x : ℕ) (ls : List (Vec (ℕ × Option Verdict))) → length ls ≡ 0 → times_all x (lists_of ls) ≡ 0
none_lists x [] e = refl
none_lists x (u ∷ us) e = absurd (omega arith)

pub last_list : (x : ℕ) (all ls : List (Vec (ℕ × Option Verdict))) (l : Vec (ℕ × Option Verdict)) → all ≡ ls ++ l ∷ [] → times_all x (lists_of all) ≡ times x (jobs_in l.items) + times_all x (lists_of ls)
last_list x all ls l e =
    let lists = ap (times_all x) (ap lists_of e ∙ map-append (λ (k : Vec (ℕ × Option Verdict)). jobs_in k.items) ls (l ∷ [])) in
    let sum = times_all_append x (lists_of ls) (jobs_in l.items ∷ []) in
    omega arith
