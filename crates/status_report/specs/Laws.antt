-- What the statuses of a report are statuses of.
use Rattle.std.specs.Prelude.{◌≡◌, ℕ, Bool, List, [], ◌∷◌}
use Rattle.core_expr.specs.declared.canon.Canon.{Canon}
use Rattle.obligation.specs.declared.obligation.Definition.{Definition}
use Rattle.proof_contexts.specs.Theorems.{Theorem}
use Rattle.proof_contexts.specs.Statuses.{Verdict, cites, verdicts, statuses}
use Rattle.usable_facts.specs.Theorems.{chosen_keys}
use Rattle.status_report.specs.declared.table.TheoremIn.{TheoremIn}
use Rattle.status_report.specs.Statuses.{leaf_verdicts, nothing, statuses_from}

module _ (table : List Definition) (is_theorem : ℕ → Bool) (answer : Canon → Verdict) where
  -- x has the key of the theorem, cites the theorems that its proof does, and has leaves that count as the theorem's
  abbrev pub StandsFor : TheoremIn → Theorem → Type 0
  StandsFor x t = (x.key ≡ t.key) × (x.cited ≡ chosen_keys is_theorem (cites t.proof)) × (leaf_verdicts x.leaves ≡ verdicts table is_theorem answer t)

  -- so do these, one after another
  abbrev pub StandFor : List TheoremIn → List Theorem → Type 0
  StandFor [] [] = Unit {0}
  StandFor (x ∷ xs) (t ∷ ts) = StandsFor x t × StandFor xs ts
  StandFor _ _ = ⊥

-- the statuses that are reported are those of the theorems
abbrev pub StatusesAgree : Type 0
StatusesAgree =
    (table : List Definition) (is_theorem : ℕ → Bool) (answer : Canon → Verdict) (xs : List TheoremIn) (ts : List Theorem)
    → StandFor table is_theorem answer xs ts → statuses_from nothing xs ≡ statuses table is_theorem answer [] ts
