-- Statuses of theorems, by what their leaves come to and which theorems before them are proved.
use Rattle.std.specs.Prelude.{ℕ, Bool, true, false, cond, nat_eq, List, [], ◌∷◌, map, codes}
use Rattle.proof_contexts.specs.Statuses.{Verdict, Status, worst, status, is_proved}
use Rattle.proof_contexts.specs.Statuses.Verdict.{Temporal, Memory, Unproved, Missing, Omitted, Proved}
use Rattle.status_report.specs.declared.table.Shown.{Shown}
use Rattle.status_report.specs.declared.table.Shown.TheVariants as shown
use Rattle.status_report.specs.declared.table.LeafIn.{LeafIn}
use Rattle.status_report.specs.declared.table.TheoremIn.{TheoremIn}
use Rattle.status_report.specs.Texts.{Bytes, name_text}

-- what a leaf counts as
abbrev pub verdict_of : Shown → Verdict
verdict_of (shown.Proved turns) = Proved
verdict_of shown.Cached = Proved
verdict_of (shown.Saturated turns valuation) = Unproved
verdict_of (shown.Spent turns) = Unproved
verdict_of shown.Memory = Memory
verdict_of shown.Temporal = Temporal
verdict_of shown.Shape = Unproved
verdict_of shown.Omitted = Omitted
verdict_of shown.Missing = Missing

abbrev pub leaf_verdicts : List LeafIn → List Verdict
leaf_verdicts leaves = map (λ (l : LeafIn). verdict_of l.verdict) leaves

-- What is known of the theorems before one: the keys of those that are reported proved, and the printed name of each key. Of two
-- theorems with one key the later one's name counts.
pub record Seen : Type 0 where
  pub done : ℕ → Bool
  pub name : ℕ → Bytes

abbrev pub nothing : Seen
nothing = record { done = λ k. false; name = λ k. codes "-" }

-- the status of a theorem behind these
abbrev pub status_in : Seen → TheoremIn → Status
status_in s t = status s.done t.cited (worst (leaf_verdicts t.leaves))

abbrev pub with_done : Bool → ℕ → (ℕ → Bool) → ℕ → Bool
with_done true key done k = cond (nat_eq key k) true (done k)
with_done false key done k = done k

-- a further theorem, which is reported proved or not
abbrev pub with_theorem : Bool → TheoremIn → Seen → Seen
with_theorem proved t s = record { done = with_done proved t.key s.done; name = λ k. cond (nat_eq t.key k) (name_text t.name) (s.name k) }

abbrev pub see : Seen → TheoremIn → Seen
see s t = with_theorem (is_proved (status_in s t)) t s

-- the statuses of theorems in order
abbrev pub statuses_from : Seen → List TheoremIn → List Status
statuses_from s [] = []
statuses_from s (t ∷ ts) = status_in s t ∷ statuses_from (see s t) ts
