-- Sizes of the nodes of a bank.
use Rattle.std.specs.Prelude.{◌≡◌, ℕ, ◌+◌, ◌<◌, ◌≤◌, List, [], ◌∷◌, length}
use Rattle.std.proofs.Common.{get_or}
use Rattle.core_expr.specs.Tree.{Tree}
use Rattle.core_expr.specs.Terms.{nodes}
use Rattle.term_bank.specs.Banks.{tree_at}

-- the sizes at these indices together
abbrev pub sizes_all : List ℕ → List ℕ → ℕ
sizes_all ns [] = 0
sizes_all ns (p ∷ ps) = get_or ns p 0 + sizes_all ns ps

-- the numbers of nodes of the first trees
pub record AreSizes (ts : List Tree) (ns : List ℕ) : Type 0 where
  pub within : length ns ≤ length ts
  pub right : (i : ℕ) → i < length ns → get_or ns i 0 ≡ nodes (tree_at ts i)
