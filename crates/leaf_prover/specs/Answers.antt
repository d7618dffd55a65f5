-- The answer of the written search to a canonical form.
use Rattle.std.specs.Prelude.{[], ◌∷◌, ◌≡◌, ℕ, Bool, true, false, List, Option, Some, None, length}
use Rattle.core_expr.specs.declared.canon.Canon.{Canon}
use Rattle.seq_calculus.specs.Calculus.{Correct}
use Rattle.seq_calculus.specs.Steps.{proof_of}
use Rattle.proof_cache.specs.declared.verdict.Verdict.{Verdict}
use Rattle.proof_cache.specs.declared.verdict.Verdict.TheVariants as verdict
use Rattle.search_definition.specs.Terms.{when}
use Rattle.search_definition.specs.Branches.{Branch}
use Rattle.search_definition.specs.Search.{End, search}
use Rattle.search_definition.specs.Search.End.{Closed, Saturated as Open, Spent as Cut}
use Rattle.propositional_laws.specs.Formulas.{is_propositional_canon, symbol_count}
use Rattle.propositional_laws.specs.Valuations.{valuation}
use Rattle.leaf_prover.specs.declared.answer.Answer.{Answer}
use Rattle.leaf_prover.specs.declared.answer.Answer.TheVariants.{Proved, Saturated, Spent, Cached}

-- the values of the symbols on a branch of a propositional form
abbrev pub values_of : Canon → Branch → Option (List Bool)
values_of c b = when (is_propositional_canon c) (valuation (symbol_count c) b)

-- the answer that the end of a search on a form gives
abbrev pub answer_for : Canon → End → Answer
answer_for c (Closed turns) = Proved turns
answer_for c (Open branch turns) = Saturated (values_of c branch) turns
answer_for c (Cut turns) = Spent turns

-- how the written search ends on a canonical form, with at most so many turns
unfoldable pub end_of : ℕ → Canon → End
end_of n c = search c.facts c.goal n

-- the answer to a canonical form
abbrev pub answer : ℕ → Canon → Answer
answer n c = answer_for c (end_of n c)

-- the answer is a proof
abbrev pub is_proved : Answer → Bool
is_proved (Proved turns) = true
is_proved (Saturated values turns) = false
is_proved (Spent turns) = false
is_proved Cached = true

-- the verdict is the answer to the form, and a proof comes with it that is correct for the form
abbrev pub IsRight : ℕ → Canon → Verdict → Type 0
IsRight n c (verdict.Proved p turns cached) = (answer n c ≡ Proved turns) × (cached ≡ false) × Correct (proof_of p) c.facts (c.goal ∷ [])
IsRight n c (verdict.Saturated values turns) = answer n c ≡ Saturated values turns
IsRight n c (verdict.Spent turns) = answer n c ≡ Spent turns
IsRight n c verdict.Memory = ⊥

-- values of so many symbols, where there are values
abbrev pub HasValues : ℕ → Option (List Bool) → Type 0
HasValues n None = Unit {0}
HasValues n (Some values) = length values ≡ n

-- the values of a saturated answer are those of so many symbols
abbrev pub WithValues : ℕ → Answer → Type 0
WithValues n (Saturated values turns) = HasValues n values
WithValues n _ = Unit {0}
