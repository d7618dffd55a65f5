-- What a theorem is reported as, from what its leaves come to and what it cites.
use Rattle.std.specs.Prelude.{◌≡◌, ℕ, Bool, true, false, ◌||◌, ◌⊎◌, not, cond, nat_eq, if◌then◌else◌, List, [], ◌∷◌, ◌++◌, map}
use Rattle.core_expr.specs.declared.canon.Canon.{Canon}
use Rattle.obligation.specs.declared.obligation.Definition.{Definition}
use Rattle.proof_contexts.specs.declared.leaf.Leaf.{Leaf}
use Rattle.proof_contexts.specs.declared.leaf.LeafKind.{LeafKind}
use Rattle.proof_contexts.specs.declared.leaf.LeafKind.TheVariants as kind
use Rattle.proof_contexts.specs.Expansion.{has_number}
use Rattle.proof_contexts.specs.Canonical.{obligation_canon}
use Rattle.proof_contexts.specs.Steps.{Fact, Proof, Steps, Step}
use Rattle.proof_contexts.specs.Steps.Fact.{Cited, Plain}
use Rattle.proof_contexts.specs.Steps.Proof.{By, Stepped}
use Rattle.proof_contexts.specs.Steps.Steps.{Qed, Next}
use Rattle.proof_contexts.specs.Steps.Step.{Assert, Case, Suffices, Pick, Use}
use Rattle.proof_contexts.specs.Theorems.{Theorem, theorem_leaves}

-- ---- citations

abbrev pub cites_facts : List Fact → List ℕ
cites_facts [] = []
cites_facts (Cited x ∷ fs) = x ∷ cites_facts fs
cites_facts (Plain p e ∷ fs) = cites_facts fs

-- the names that BY and USE cite, in the order of the text
abbrev mutual
  pub cites : Proof → List ℕ
  cites (By p only fs u) = cites_facts fs
  cites (Stepped ss) = cites_steps ss
  cites _ = []

  pub cites_steps : Steps → List ℕ
  cites_steps (Qed p) = cites p
  cites_steps (Next p s ss) = cites_step s ++ cites_steps ss

  pub cites_step : Step → List ℕ
  cites_step (Assert l s p) = cites p
  cites_step (Case l f p) = cites p
  cites_step (Suffices l s p) = cites p
  cites_step (Pick l is f p) = cites p
  cites_step (Use l fs u) = cites_facts fs
  cites_step _ = []

-- ---- statuses

-- What a leaf comes to. Unproved: the search ended without a proof, or the goal has not the form that a step asks for.
pub data Verdict : Type 0 where
  Temporal : Verdict
  Memory : Verdict
  Unproved : Verdict
  Missing : Verdict
  Omitted : Verdict
  Proved : Verdict

-- that of a leaf, by what the search answers to canonical forms
abbrev pub verdict : (Canon → Verdict) → LeafKind → Verdict
verdict answer (kind.Search o) = answer (obligation_canon o)
verdict answer kind.Missing = Missing
verdict answer kind.Omitted = Omitted
verdict answer kind.Temporal = Temporal
verdict answer kind.Shape = Unproved

abbrev pub code : Verdict → ℕ
code Temporal = 0
code Memory = 1
code Unproved = 2
code Missing = 3
code Omitted = 4
code Proved = 5

abbrev pub is_there : Verdict → List Verdict → Bool
is_there v [] = false
is_there v (w ∷ ws) = nat_eq (code v) (code w) || is_there v ws

-- the first verdict, in the order above, that one of the leaves has
abbrev pub worst : List Verdict → Verdict
worst vs =
    if is_there Temporal vs then Temporal else
    if is_there Memory vs then Memory else
    if is_there Unproved vs then Unproved else
    if is_there Missing vs then Missing else
    if is_there Omitted vs then Omitted else Proved

-- a status: what a leaf comes to, or conditional on a theorem that is cited and not proved
pub data Status : Type 0 where
  By_leaf : Verdict → Status
  Conditional : ℕ → Status

-- the first of the cited theorems that is not reported proved
abbrev pub by_cited : (ℕ → Bool) → List ℕ → Status
by_cited may [] = By_leaf Proved
by_cited may (x ∷ xs) = if may x then by_cited may xs else Conditional x

-- the status of a theorem whose leaves come to these, and that cites these names; may: those that are no theorem's, or proved ones'
abbrev pub status : (ℕ → Bool) → List ℕ → Verdict → Status
status may xs Proved = by_cited may xs
status may xs v = By_leaf v

abbrev pub is_proved : Status → Bool
is_proved (By_leaf Proved) = true
is_proved (By_leaf Temporal) = false
is_proved (By_leaf Memory) = false
is_proved (By_leaf Unproved) = false
is_proved (By_leaf Missing) = false
is_proved (By_leaf Omitted) = false
is_proved (Conditional x) = false

-- is_theorem: the numbers that are names of theorems; answer: what the search answers to canonical forms
module _ (table : List Definition) (is_theorem : ℕ → Bool) (answer : Canon → Verdict) where
  -- a name that is no theorem's, or is one of these
  abbrev pub may_with : List ℕ → ℕ → Bool
  may_with done x = not (is_theorem x) || has_number done x

  abbrev pub verdicts : Theorem → List Verdict
  verdicts t = map (λ (l : Leaf). verdict answer l.kind) (theorem_leaves table t)

  -- done: the theorems before it that are reported proved
  abbrev pub status_of : List ℕ → Theorem → Status
  status_of done t = status (may_with done) (cites t.proof) (worst (verdicts t))

  abbrev pub is_reported : List ℕ → Theorem → Bool
  is_reported done t = is_proved (status_of done t)

  abbrev pub done_with : List ℕ → Theorem → List ℕ
  done_with done t = cond (is_reported done t) (t.key ∷ done) done

  -- the statuses of theorems in order
  abbrev pub statuses : List ℕ → List Theorem → List Status
  statuses done [] = []
  statuses done (t ∷ ts) = status_of done t ∷ statuses (done_with done t) ts

  -- the theorem is one of these, in order, and is reported proved
  abbrev pub IsReported : List ℕ → List Theorem → Theorem → Type 0
  IsReported done [] t = ⊥
  IsReported done (u ∷ us) t = ((u ≡ t) × (is_reported done u ≡ true)) ⊎ IsReported (done_with done u) us t
