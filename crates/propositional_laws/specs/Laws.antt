-- What the written search says of propositional obligations. Each statement is the contract of a function of src/laws.rt.
use Rattle.std.specs.Prelude.{◌≡◌, ◌↔◌, ◌≤◌, ◌+◌, ◌^◌, ℕ, true, List}
use Rattle.core_expr.specs.declared.canon.Canon.{Canon}
use Rattle.core_expr.specs.Tree.{Tree}
use Rattle.valuation.specs.Truth.{Valuation, Falsifies, falsifies, by_number, is_propositional, are_propositional}
use Rattle.search_definition.specs.Branches.{Branch}
use Rattle.search_definition.specs.Search.{search}
use Rattle.search_definition.specs.Search.End.{Closed, Saturated, Spent}
use Rattle.propositional_laws.specs.Formulas.{Formula, Formulas, all_connectives, is_propositional_canon, symbol_count, HasNumbers}
use Rattle.propositional_laws.specs.Valuations.{valuation_of, valuation, IsValid}

-- the tests of propositional formulas say what they test
abbrev pub TestsFormulas : Type 0
TestsFormulas = ((f : Tree) → (is_propositional f ≡ true) ↔ Formula f) × ((fs : List Tree) → (are_propositional fs ≡ true) ↔ Formulas fs)

-- the test of valuations says what it tests
abbrev pub TestsFalsifies : Type 0
TestsFalsifies = (v : Valuation) (facts : List Tree) (goal : Tree) → (falsifies v facts goal ≡ true) ↔ Falsifies v facts goal

-- P holds of propositional facts with a propositional goal
abbrev pub OfFormulas : (List Tree → Tree → Type 0) → Type 0
OfFormulas P = (facts : List Tree) (goal : Tree) → Formulas facts → Formula goal → P facts goal

-- P holds of every propositional canonical form
abbrev pub OfForms : (Canon → Type 0) → Type 0
OfForms P = (c : Canon) → is_propositional_canon c ≡ true → P c

-- the turns of the limit are 2 ^ (c + 1) or more, where c is the number of connectives
abbrev pub HasTurns : List Tree → Tree → ℕ → Type 0
HasTurns facts goal limit = 2 ^ (all_connectives facts goal + 1) ≤ limit

-- the valuation of a saturated branch makes the facts true and the goal false
abbrev pub SaturatedFalsifies : Type 0
SaturatedFalsifies = OfFormulas (λ facts goal. (limit used : ℕ) (b : Branch) → search facts goal limit ≡ Saturated b used → Falsifies (valuation_of b) facts goal)

-- so do, for a canonical form, the values of its symbols by their numbers
abbrev pub ValuesFalsify : Type 0
ValuesFalsify =
    OfForms (λ c. HasNumbers c → (limit used : ℕ) (b : Branch) → search c.facts c.goal limit ≡ Saturated b used → Falsifies (by_number (valuation (symbol_count c) b)) c.facts c.goal)

-- the search ends closed only where no valuation falsifies
abbrev pub ClosedIsValid : Type 0
ClosedIsValid = OfFormulas (λ facts goal. (limit used : ℕ) → search facts goal limit ≡ Closed used → IsValid facts goal)

-- with so many turns the search comes to an end
abbrev pub TurnsSuffice : Type 0
TurnsSuffice = OfFormulas (λ facts goal. (limit used : ℕ) → HasTurns facts goal limit → search facts goal limit ≡ Spent used → ⊥)

-- so with so many turns the search ends closed exactly where no valuation falsifies
abbrev pub DecidesPropositional : Type 0
DecidesPropositional =
    OfFormulas (λ facts goal. (limit : ℕ) → HasTurns facts goal limit → ((used : ℕ) × (search facts goal limit ≡ Closed used)) ↔ IsValid facts goal)

-- the facts and the goal of a propositional canonical form are propositional formulas
abbrev pub FormsAreFormulas : Type 0
FormsAreFormulas = OfForms (λ c. Formulas c.facts × Formula c.goal)

-- 100000 turns are enough for 15 connectives, and 1000000 for 18
abbrev pub FewConnectives : Type 0
FewConnectives =
    (facts : List Tree) (goal : Tree) → (all_connectives facts goal ≤ 15 → HasTurns facts goal 100000) × (all_connectives facts goal ≤ 18 → HasTurns facts goal 1000000)
