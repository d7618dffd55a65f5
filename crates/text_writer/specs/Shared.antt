-- The trees of nodes that share their parts, entered into another table.
use Rattle.std.specs.Prelude.{◌≡◌, ℕ, List, [], ◌∷◌, ◌++◌, length, map, Option, Some, None}
use Rattle.std.proofs.Common.{get_or}
use Rattle.core_expr.specs.Nodes.{AreNodes}
use Rattle.seq_calculus.specs.declared.lists.ProofNode.{ProofNode}
use Rattle.seq_calculus.specs.Lists.{node_of}
use Rattle.proof_text.specs.Texts.{tree_in}
use Rattle.text_writer.specs.Tables.{Placed, enter}

-- a table, and a place in it
abbrev pub here : List ProofNode → ℕ → Placed
here table p = record { nodes = table; place = p }

-- the trees of these nodes are entered, that of the last one first
abbrev pub enter_last_first : List ProofNode → List ℕ → Placed → Placed
enter_last_first ns [] a = a
enter_last_first ns (i ∷ is) a = enter (tree_in ns i) (enter_last_first ns is a).nodes

-- the numbers, the first one last
abbrev pub last_first : List ℕ → List ℕ
last_first [] = []
last_first (i ∷ is) = last_first is ++ i ∷ []

abbrev pub place_of : List (Option ℕ) → ℕ → Option ℕ
place_of places i = get_or places i None

-- the nodes are those of a table, and where a place is noted for one, its tree stands there in the other table already
pub record AreNoted (ns table : List ProofNode) (places : List (Option ℕ)) : Type 0 where
  pub nodes : AreNodes 0 (map node_of ns)
  pub count : length places ≡ length ns
  pub stand : (i p : ℕ) → place_of places i ≡ Some p → enter (tree_in ns i) table ≡ here table p

-- the places of these nodes are noted, and are ps
abbrev pub ArePlaces : List (Option ℕ) → List ℕ → List ℕ → Type 0
ArePlaces places is ps = map (place_of places) is ≡ map (λ p. Some p) ps
