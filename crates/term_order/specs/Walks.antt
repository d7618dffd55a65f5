-- The walk along the closed subterms.
use Rattle.std.specs.Prelude.{◌≡◌, ◌↔◌, ◌⊎◌, ℕ, ◌+◌, ◌<◌, Bool, true, false, List, [], ◌∷◌, ◌++◌, length}
use Rattle.core_expr.specs.Tree.{Tree}
use Rattle.core_expr.specs.Put.{IsScoped}
use Rattle.core_expr.specs.Nodes.{Node, AreBelow, picked}
use Rattle.core_expr.specs.Terms.{nodes}
use Rattle.search_definition.specs.Terms.{in_list, closed_subterms}
use Rattle.term_bank.specs.Banks.{HasNode, tree_at}
use Rattle.term_bank.specs.Images.{In}
use Rattle.term_order.specs.Firsts.{firsts, firsts_after}

-- the stack with these on it, the first uppermost; the uppermost is the last of the list
abbrev pub pushed : List ℕ → List ℕ → List ℕ
pushed stack [] = stack
pushed stack (p ∷ ps) = pushed stack ps ++ p ∷ []

-- the index was new, or the set stays
abbrev pub IsEntered : List ℕ → List ℕ → ℕ → Bool → Type 0
IsEntered old new i true = (In i old → ⊥) × ((q : ℕ) → In q new ↔ ((q ≡ i) ⊎ In q old))
IsEntered old new i false = In i old × (new ≡ old)

-- the node at i was added where it is closed, and its parts were pushed
pub record IsVisit (ts : List Tree) (i : ℕ) (found more stack next : List ℕ) : Type 0 where
  pub node : Node
  pub stands : HasNode ts i node
  pub below : AreBelow i node.parts
  pub stack_is : next ≡ pushed stack node.parts
  pub found_is : (IsScoped 0 (tree_at ts i) × (more ≡ found ++ i ∷ [])) ⊎ ((IsScoped 0 (tree_at ts i) → ⊥) × (more ≡ found))

-- the node at i was seen, or it was visited
abbrev pub IsTaken : List Tree → ℕ → List ℕ → List ℕ → List ℕ → List ℕ → List ℕ → List ℕ → Type 0
IsTaken ts i seen entered found more stack next = (IsEntered seen entered i false × (more ≡ found) × (next ≡ stack)) ⊎ (IsEntered seen entered i true × IsVisit ts i found more stack next)

-- the closed subterms of what the stack holds, from above
abbrev pub pending : List Tree → List ℕ → List Tree
pending ts [] = []
pending ts (q ∷ qs) = pending ts qs ++ closed_subterms (tree_at ts q)

-- the nodes of what the stack holds, as trees
abbrev pub weight : List Tree → List ℕ → ℕ
weight ts [] = 0
weight ts (q ∷ qs) = weight ts qs + nodes (tree_at ts q)

-- q stands on the stack, and neither it nor what is above it reaches j
abbrev pub IsAbove : ℕ → ℕ → List ℕ → Type 0
IsAbove j q [] = ⊥
IsAbove j q (p ∷ ps) = ((q ≡ p) × (p < j) × AreBelow j ps) ⊎ IsAbove j q ps

-- y is one of these terms
abbrev pub Among : Tree → List Tree → Type 0
Among y [] = ⊥
Among y (x ∷ xs) = (y ≡ x) ⊎ Among y xs

-- y was found, or is a closed subterm of what is still above j
abbrev pub IsKnown : List Tree → List ℕ → List ℕ → ℕ → Tree → Type 0
IsKnown ts found stack j y = (in_list (picked ts found) y ≡ true) ⊎ ((q : ℕ) × IsAbove j q stack × Among y (closed_subterms (tree_at ts q)))

-- the walk from e
pub record IsListing (ts : List Tree) (e : ℕ) (seen found stack : List ℕ) : Type 0 where
  pub listed : firsts (closed_subterms (tree_at ts e)) ≡ picked ts found ++ firsts_after (picked ts found) (pending ts stack)
  pub known : (j : ℕ) → In j seen → (y : Tree) → Among y (closed_subterms (tree_at ts j)) → IsKnown ts found stack j y
  pub entered : (q : ℕ) → In q found → In q seen
  pub within : (q : ℕ) → In q stack → q < length ts
  pub below : AreBelow (length ts) found
