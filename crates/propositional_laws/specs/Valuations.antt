-- The valuation of a branch, and validity.
use Rattle.std.specs.Prelude.{ℕ, zero, suc, Bool, List, [], ◌∷◌}
use Rattle.core_expr.specs.Tree.{Tree}
use Rattle.core_expr.specs.Tree.Tree.{app}
use Rattle.core_expr.specs.Tree.Parts.{end}
use Rattle.valuation.specs.Truth.{Valuation, Falsifies}
use Rattle.search_definition.specs.Branches.{Branch, has}
use Rattle.propositional_laws.specs.Formulas.{numbered}

-- true of exactly the symbols that stand on the branch as formulas
abbrev pub valuation_of : Branch → Valuation
valuation_of b s = has b (app s end)

-- whether they stand on the branch: the n symbols of a canonical form from the k-th on
abbrev pub valuation_from : ℕ → ℕ → Branch → List Bool
valuation_from k zero b = []
valuation_from k (suc n) b = has b (app (numbered k) end) ∷ valuation_from (suc k) n b

-- the values of the first n symbols of a canonical form, in the order of their numbers
unfoldable pub valuation : ℕ → Branch → List Bool
valuation n b = valuation_from 0 n b

-- no valuation makes the facts true and the goal false
abbrev pub IsValid : List Tree → Tree → Type 0
IsValid facts goal = (v : Valuation) → Falsifies v facts goal → ⊥
