-- The statuses that are reported are those of the theorems.
use Rattle.std.specs.Prelude.{◌≡◌, ℕ, Bool, true, false, ◌||◌, not, cond, nat_eq, if◌then◌else◌, List, [], ◌∷◌}
use Rattle.std.proofs.Common.{refl, ap, ◌∙◌}
use Rattle.core_expr.specs.declared.canon.Canon.{Canon}
use Rattle.obligation.specs.declared.obligation.Definition.{Definition}
use Rattle.proof_contexts.specs.Expansion.{has_number}
use Rattle.proof_contexts.specs.Theorems.{Theorem}
use Rattle.proof_contexts.specs.Statuses.{Verdict, worst, by_cited, status, is_proved, cites, may_with, verdicts, status_of, done_with, statuses}
use Rattle.proof_contexts.specs.Statuses.Verdict.{Temporal, Memory, Unproved, Missing, Omitted, Proved}
use Rattle.proof_contexts.specs.Statuses.Status.{Conditional}
use Rattle.usable_facts.specs.Theorems.{chosen_keys}
use Rattle.status_report.specs.declared.table.TheoremIn.{TheoremIn}
use Rattle.status_report.specs.Statuses.{Seen, with_done, nothing, status_in, see, statuses_from}
use Rattle.status_report.specs.Laws.{StandFor, StatusesAgree}

either : (a b : Bool) → cond a true b ≡ a || b
either true b = refl
either false b = refl

module _ (table : List Definition) (is_theorem : ℕ → Bool) (answer : Canon → Verdict) where
  -- a name that is no theorem's changes no status
  cited_agree : (may : ℕ → Bool) (done : List ℕ) → ((k : ℕ) → may k ≡ has_number done k) → (ks : List ℕ)
      → by_cited may (chosen_keys is_theorem ks) ≡ by_cited (may_with table is_theorem answer done) ks
  cited_agree may done e [] = refl
  cited_agree may done e (k ∷ ks) = go (is_theorem k) (cited_agree may done e ks)
    where
      go : (b : Bool) → by_cited may (chosen_keys is_theorem ks) ≡ by_cited (may_with table is_theorem answer done) ks
          → by_cited may (if b then k ∷ chosen_keys is_theorem ks else chosen_keys is_theorem ks)
          ≡ (if not b || has_number done k then by_cited (may_with table is_theorem answer done) ks else Conditional k)
      go true more = λ i. if e k i then more i else Conditional k
      go false more = more

  status_agree : (may : ℕ → Bool) (done : List ℕ) → ((k : ℕ) → may k ≡ has_number done k) → (ks : List ℕ) (v : Verdict)
      → status may (chosen_keys is_theorem ks) v ≡ status (may_with table is_theorem answer done) ks v
  status_agree may done e ks Temporal = refl
  status_agree may done e ks Memory = refl
  status_agree may done e ks Unproved = refl
  status_agree may done e ks Missing = refl
  status_agree may done e ks Omitted = refl
  status_agree may done e ks Proved = cited_agree may done e ks

  done_agree : (b : Bool) (key : ℕ) (may : ℕ → Bool) (done : List ℕ) → ((k : ℕ) → may k ≡ has_number done k)
      → (k : ℕ) → with_done b key may k ≡ has_number (cond b (key ∷ done) done) k
  done_agree true key may done e k = either (nat_eq key k) (may k) ∙ ap (λ x. nat_eq key k || x) (e k)
  done_agree false key may done e k = e k

  agree_from : (s : Seen) (done : List ℕ) → ((k : ℕ) → s.done k ≡ has_number done k) → (xs : List TheoremIn) (ts : List Theorem) → StandFor table is_theorem answer xs ts
      → statuses_from s xs ≡ statuses table is_theorem answer done ts
  agree_from s done e [] [] h = refl
  agree_from s done e [] (t ∷ ts) h = absurd h
  agree_from s done e (x ∷ xs) [] h = absurd h
  agree_from s done e (x ∷ xs) (t ∷ ts) h =
      let p : status_in s x ≡ status_of table is_theorem answer done t =
      (λ i. status s.done (h.0.1 i) (worst (h.0.2 i))) ∙ status_agree s.done done e (cites t.proof) (worst (verdicts table is_theorem answer t)) in
      let next : (k : ℕ) → (see s x).done k ≡ has_number (done_with table is_theorem answer done t) k =
      λ k. (λ i. with_done (is_proved (p i)) (h.0.0 i) s.done k) ∙ done_agree (is_proved (status_of table is_theorem answer done t)) t.key s.done done e k in
      let more = agree_from (see s x) (done_with table is_theorem answer done t) next xs ts h.1 in
      λ i. p i ∷ more i

pub statuses_agree : StatusesAgree
statuses_agree table is_theorem answer xs ts h = agree_from table is_theorem answer nothing [] (λ k. refl) xs ts h
