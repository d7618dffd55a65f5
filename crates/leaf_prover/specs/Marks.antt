-- The values of symbols, found by going over a branch.
use Rattle.std.specs.Prelude.{◌≡◌, ℕ, ◌<◌, Bool, true, false, nat_lt, cond, Option, Some, None, List, length}
use Rattle.std.proofs.Common.{get_or, set}
use Rattle.core_expr.specs.Tree.{Tree}
use Rattle.core_expr.specs.Tree.Tree.{app}
use Rattle.core_expr.specs.Tree.Parts.{end}
use Rattle.core_expr.specs.Terms.{same_sym}
use Rattle.search_definition.specs.Terms.{when}
use Rattle.search_definition.specs.Branches.{has}
use Rattle.propositional_laws.specs.Formulas.{numbered}
use Rattle.branch_book.specs.declared.item.Item.{Item}
use Rattle.tableau_search.specs.Entries.{branch_by}

-- the number of the symbol of a canonical form that the formula is, where it is one without arguments
abbrev pub letter : Tree → Option ℕ
letter (app f end) = when (same_sym f (numbered f.number)) f.number
letter _ = None

-- the values with TRUE at the number
abbrev pub marked : List Bool → Option ℕ → List Bool
marked vs None = vs
marked vs (Some n) = cond (nat_lt n (length vs)) (set vs n true) vs

-- the values of n symbols on the branch of these items
pub record AreMarked (ts : List Tree) (xs : List Item) (n : ℕ) (vs : List Bool) : Type 0 where
  pub count : length vs ≡ n
  pub marks : (k : ℕ) → k < n → get_or vs k false ≡ has (branch_by ts xs) (app (numbered k) end)
