-- Tables of nodes over the trees of a bank.
use Rattle.std.specs.Prelude.{◌≡◌, ℕ, List, [], ◌∷◌, map, length}
use Rattle.std.proofs.Common.{get_or}
use Rattle.core_expr.specs.Tree.{Tree}
use Rattle.proof_checker.specs.declared.nodes.Cell.{Cell}
use Rattle.proof_checker.specs.declared.nodes.Cell.TheVariants.{Leaf, One, Two, Three}
use Rattle.core_expr.specs.Nodes.{Node, AreBelow, picked}

-- the indices at these places
abbrev pub gathered : List ℕ → List ℕ → List ℕ
gathered places is = map (λ i. get_or places i 0) is

-- the node over the trees at its places
abbrev pub node_in : Cell → Node
node_in (Leaf h) = record { head = h; numbers = []; parts = [] }
node_in (One h a) = record { head = h; numbers = []; parts = a ∷ [] }
node_in (Two h a b) = record { head = h; numbers = []; parts = a ∷ b ∷ [] }
node_in (Three h a b c) = record { head = h; numbers = []; parts = a ∷ b ∷ c ∷ [] }

abbrev pub cells_of : List Cell → List Node
cells_of cs = map node_in cs

-- the trees of a table stand at these places
pub record ArePlaced (ts table : List Tree) (places : List ℕ) : Type 0 where
  pub below : AreBelow (length ts) places
  pub trees : picked ts places ≡ table
