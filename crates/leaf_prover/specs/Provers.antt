-- What the prover of jobs answers: to forms the first kept proof that is correct, and else what the written search answers. A list of formulas
-- that is no form is not searched.
use Rattle.std.specs.Prelude.{◌≡◌, ℕ, Bool, true, false, List, [], ◌∷◌, Option, Some, None, if◌then◌else◌}
use Rattle.core_expr.specs.declared.canon.Canon.{Canon}
use Rattle.seq_calculus.specs.Calculus.{Correct, Der}
use Rattle.seq_calculus.specs.Lists.{Lists}
use Rattle.seq_calculus.specs.Steps.{proof_of}
use Rattle.proof_cache.specs.declared.verdict.Verdict.{Verdict}
use Rattle.proof_cache.specs.declared.verdict.Verdict.TheVariants as verdict
use Rattle.cache_hit.specs.Hits.{hit}
use Rattle.leaf_prover.specs.declared.answer.Answer.{Answer}
use Rattle.leaf_prover.specs.declared.answer.Answer.TheVariants.{Proved, Saturated, Spent, Cached}
use Rattle.leaf_prover.specs.Forms.{is_form}
use Rattle.leaf_prover.specs.Answers.{answer, is_proved, IsRight}

-- the answer to a form for which the cache gives this proof, or none
abbrev pub answered_by : Option Lists → ℕ → Canon → Answer
answered_by (Some p) n c = Cached
answered_by None n c = answer n c

abbrev pub answered_where : Bool → List Lists → ℕ → Canon → Answer
answered_where true ps n c = answered_by (hit c ps) n c
answered_where false ps n c = Spent 0

-- the answer to a canonical form for which these proofs are kept, with at most so many turns; of one that is no form no turn is made
abbrev pub answered : List Lists → ℕ → Canon → Answer
answered ps n c = answered_where (is_form c) ps n c

-- the verdict is that answer, and a proof comes with it that is correct for the form
abbrev pub IsAnsweredBy : Option Lists → ℕ → Canon → Verdict → Type 0
IsAnsweredBy (Some p) n c v = (v ≡ verdict.Proved p 0 true) × Correct (proof_of p) c.facts (c.goal ∷ [])
IsAnsweredBy None n c v = IsRight n c v

abbrev pub IsAnsweredWhere : Bool → List Lists → ℕ → Canon → Verdict → Type 0
IsAnsweredWhere true ps n c v = IsAnsweredBy (hit c ps) n c v
IsAnsweredWhere false ps n c v = v ≡ verdict.Spent 0

abbrev pub IsAnswered : List Lists → ℕ → Canon → Verdict → Type 0
IsAnswered ps n c v = IsAnsweredWhere (is_form c) ps n c v

abbrev pub proved_by : Bool → ℕ → Answer
proved_by true turns = Cached
proved_by false turns = Proved turns

-- the verdict says this answer
abbrev pub Says : Answer → Verdict → Type 0
Says a (verdict.Proved p turns cached) = a ≡ proved_by cached turns
Says a (verdict.Saturated values turns) = a ≡ Saturated values turns
Says a (verdict.Spent turns) = a ≡ Spent turns
Says a verdict.Memory = ⊥

-- a verdict that is right says what is answered
abbrev pub RightIsAnswered : Type 0
RightIsAnswered = (ps : List Lists) (n : ℕ) (c : Canon) (v : Verdict) → IsAnswered ps n c v → Says (answered ps n c) v

-- the proof of a right verdict is correct for the form, whatever is kept
abbrev pub ProofsAreCorrect : Type 0
ProofsAreCorrect =
    (ps : List Lists) (n : ℕ) (c : Canon) (p : Lists) (turns : ℕ) (cached : Bool) → IsAnswered ps n c (verdict.Proved p turns cached) → Correct (proof_of p) c.facts (c.goal ∷ [])

-- the goal of a form that is answered as proved has a derivation from its facts, whatever is kept
abbrev pub AnsweredDerives : Type 0
AnsweredDerives = (ps : List Lists) (n : ℕ) (c : Canon) → is_proved (answered ps n c) ≡ true → Der c.facts (c.goal ∷ [])

-- what is answered as saturated is so by the search
abbrev pub SaturatedIsSearched : Type 0
SaturatedIsSearched = (ps : List Lists) (n : ℕ) (c : Canon) (values : Option (List Bool)) (turns : ℕ) → answered ps n c ≡ Saturated values turns → answer n c ≡ Saturated values turns

-- where nothing is kept, a form is searched
abbrev pub NoneKeptIsSearched : Type 0
NoneKeptIsSearched = (n : ℕ) (c : Canon) → answered [] n c ≡ (if is_form c then answer n c else Spent 0)

-- what is proved where nothing is kept is proved whatever is kept
abbrev pub CacheKeepsProved : Type 0
CacheKeepsProved = (ps : List Lists) (n : ℕ) (c : Canon) → is_proved (answered [] n c) ≡ true → is_proved (answered ps n c) ≡ true
