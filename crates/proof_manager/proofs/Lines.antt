-- How many theorems are proved, and what a run says.
use Rattle.std.specs.Prelude.{◌≡◌, ℕ, suc, ◌+◌, ◌≤◌, Bool, true, false, ◌&&◌, cond, nat_eq, List, [], ◌∷◌, Option, None, Some, codes, length, count_by}
use Rattle.std.specs.List.{list_all}
use Rattle.std.proofs.Common.{refl, ap, sym, subst, ◌∙◌, arith, zero-add}
use Rattle.std.proofs.lemmas.Bool.Decides.{nat_tests}
use Rattle.std.proofs.lemmas.List.Sums.{sum_by-append, count_by-le-length}
use Rattle.clap.specs.Words.{first_of}
use Rattle.tla_io.specs.Told.{Bytes}
use Rattle.proof_contexts.specs.Statuses.{is_proved}
use Rattle.status_report.specs.declared.table.TheoremIn.{TheoremIn}
use Rattle.status_report.specs.declared.table.ModuleIn.{ModuleIn}
use Rattle.status_report.specs.Statuses.{Seen, see, nothing, statuses_from}
use Rattle.status_report.specs.Report.{all_theorems, statuses_of}
use Rattle.command_words.specs.Words.{IsNumber, rows}
use Rattle.command_words.specs.Requests.{Asked, IsAsked, IsDemo}
use Rattle.proof_manager.specs.Runs.{IsDemoSize, InRange}

-- ---- counts

-- one more
counted : {X : Type 0} (p : X → Bool) (x : X) (xs : List X) → count_by p (x ∷ xs) ≡ cond (p x) 1 0 + count_by p xs
counted p x xs = sum_by-append (λ y. cond (p y) 1 0) (x ∷ []) xs ∙ ap (λ n. n + count_by p xs) (zero-add (cond (p x) 1 0))

-- all pass where as many pass as there are
all_count : {X : Type 0} (p : X → Bool) (xs : List X) → nat_eq (count_by p xs) (length xs) ≡ list_all p xs
all_count p [] = refl
all_count p (x ∷ xs) =
    go (p x) refl (counted p x xs) (all_count p xs)
  where
    more : (n k l : ℕ) → n ≡ 1 + k → nat_eq n (suc l) ≡ nat_eq k l
    more n k l e = grind (arith, nat_tests)

    less : (n k l : ℕ) → n ≡ 0 + k → k ≤ l → nat_eq n (suc l) ≡ false
    less n k l e h = grind (arith, nat_tests)

    go : (b : Bool) → p x ≡ b → count_by p (x ∷ xs) ≡ cond b 1 0 + count_by p xs → nat_eq (count_by p xs) (length xs) ≡ list_all p xs → nat_eq (count_by p (x ∷ xs)) (length (x ∷ xs)) ≡ b && list_all p xs
    go true e s h = more (count_by p (x ∷ xs)) (count_by p xs) (length xs) s ∙ h
    go false e s h = less (count_by p (x ∷ xs)) (count_by p xs) (length xs) s (count_by-le-length p xs)

as-many : (s : Seen) (ts : List TheoremIn) → length (statuses_from s ts) ≡ length ts
as-many s [] = refl
as-many s (t ∷ ts) = ap suc (as-many (see s t) ts)

pub all_proved : (ms : List ModuleIn) (proved theorems : ℕ) → proved ≡ count_by is_proved (statuses_of ms) → theorems ≡ length (all_theorems ms) → nat_eq proved theorems ≡ list_all is_proved (statuses_of ms)
all_proved ms proved theorems p t =
    (λ i. nat_eq (p i) ((t ∙ sym (as-many nothing (all_theorems ms))) i)) ∙ all_count is_proved (statuses_of ms)

-- the numbers that words ask for are in range
number-range : (other greatest : ℕ) → 1 ≤ other → other ≤ greatest → (o : Option (List ℕ)) (n : ℕ) → IsNumber other greatest o n → (1 ≤ n) × (n ≤ greatest)
number-range other greatest l g None n h = (subst (λ k. 1 ≤ k) (sym h) l, subst (λ k. k ≤ greatest) (sym h) g)
number-range other greatest l g (Some t) n h = (h.2, h.3)

demo-range : (o : Option (List ℕ)) (d : Option ℕ) → IsDemo o d → IsDemoSize d
demo-range None None h = tt
demo-range None (Some n) h = absurd cc
demo-range (Some t) None h = tt
demo-range (Some t) (Some n) h = (h.2, h.3)

pub in_range : (words : List Bytes) (a : Asked) → IsAsked words a → InRange a
in_range words a h = record {
  turns = number-range 100000 1000000 (omega arith) (omega arith) (first_of (codes "turns") (rows words)) a.turns h.turns;
  workers = number-range 4 64 (omega arith) (omega arith) (first_of (codes "workers") (rows words)) a.workers h.workers;
  demo = demo-range (first_of (codes "demo") (rows words)) a.demo h.demo;
}
