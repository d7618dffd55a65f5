-- What answers mean. Each statement is the contract of a function of src/laws.rt.
use Rattle.std.specs.Prelude.{◌≡◌, ◌↔◌, ◌≤◌, ℕ, Bool, true, List, [], ◌∷◌, Some}
use Rattle.core_expr.specs.declared.canon.Canon.{Canon}
use Rattle.seq_calculus.specs.Calculus.{Der}
use Rattle.valuation.specs.Truth.{Falsifies, by_number}
use Rattle.propositional_laws.specs.Formulas.{all_connectives, is_propositional_canon, HasNumbers}
use Rattle.propositional_laws.specs.Valuations.{IsValid}
use Rattle.propositional_laws.specs.Laws.{HasTurns}
use Rattle.leaf_prover.specs.declared.answer.Answer.TheVariants.{Saturated, Spent}
use Rattle.leaf_prover.specs.Forms.{is_form}
use Rattle.leaf_prover.specs.Answers.{answer, is_proved}

-- the goal of a proved form has a derivation from its facts
abbrev pub ProvedDerives : Type 0
ProvedDerives = (n : ℕ) (c : Canon) → is_form c ≡ true → is_proved (answer n c) ≡ true → Der c.facts (c.goal ∷ [])

-- no valuation falsifies a propositional form that is proved
abbrev pub ProvedIsValid : Type 0
ProvedIsValid = (n : ℕ) (c : Canon) → is_propositional_canon c ≡ true → is_proved (answer n c) ≡ true → IsValid c.facts c.goal

-- the values of a saturated answer falsify the form, by the numbers of the symbols
abbrev pub ValuesFalsify : Type 0
ValuesFalsify =
    (n : ℕ) (c : Canon) → HasNumbers c → (values : List Bool) (turns : ℕ) → answer n c ≡ Saturated (Some values) turns → Falsifies (by_number values) c.facts c.goal

-- a propositional form with enough turns is not spent, and it is proved exactly where no valuation falsifies it
pub record IsDecided (n : ℕ) (c : Canon) : Type 0 where
  pub ended : (turns : ℕ) → answer n c ≡ Spent turns → ⊥
  pub decided : (is_proved (answer n c) ≡ true) ↔ IsValid c.facts c.goal

abbrev pub EnoughTurnsDecide : Type 0
EnoughTurnsDecide = (n : ℕ) (c : Canon) → is_propositional_canon c ≡ true → HasTurns c.facts c.goal n → IsDecided n c

-- so many turns as where none are asked for decide 15 connectives
abbrev pub FewConnectivesDecide : Type 0
FewConnectivesDecide = (c : Canon) → is_propositional_canon c ≡ true → all_connectives c.facts c.goal ≤ 15 → IsDecided 100000 c
