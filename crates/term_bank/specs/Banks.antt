-- Banks: trees, each over earlier ones, each once.
use Rattle.std.specs.Prelude.{◌≡◌, ℕ, ◌<◌, List, [], ◌++◌, length}
use Rattle.std.proofs.Common.{get_or}
use Rattle.core_expr.specs.Tree.{Tree, true_}
use Rattle.core_expr.specs.Nodes.{Node, IsNode, tree_over}

abbrev pub no_node : Node
no_node = record { head = 0; numbers = []; parts = [] }

-- a node of these
abbrev pub node_over : ℕ → List ℕ → List ℕ → Node
node_over head numbers parts = record { head = head; numbers = numbers; parts = parts }

-- the tree of an index
abbrev pub tree_at : List Tree → ℕ → Tree
tree_at ts i = get_or ts i true_

-- equal trees have one place
abbrev pub IsDistinct : List Tree → Type 0
IsDistinct ts = (i j : ℕ) → i < length ts → j < length ts → get_or ts i true_ ≡ get_or ts j true_ → i ≡ j

-- each place keeps its tree
abbrev pub Extends : List Tree → List Tree → Type 0
Extends old new = (us : List Tree) × (new ≡ old ++ us)

-- these nodes have these trees, each its own
pub record IsBank (ns : List Node) (ts : List Tree) : Type 0 where
  pub count : length ts ≡ length ns
  pub form : (i : ℕ) → i < length ns → IsNode (get_or ns i no_node) i
  pub tree : (i : ℕ) → i < length ns → get_or ts i true_ ≡ tree_over ts (get_or ns i no_node)
  pub distinct : IsDistinct ts

-- the node of the tree at i, in trees that are distinct
pub record HasNode (ts : List Tree) (i : ℕ) (n : Node) : Type 0 where
  pub within : i < length ts
  pub node : IsNode n (length ts)
  pub tree : get_or ts i true_ ≡ tree_over ts n

-- this tree stands at i
pub record HasTree (ts : List Tree) (i : ℕ) (t : Tree) : Type 0 where
  pub within : i < length ts
  pub tree : get_or ts i true_ ≡ t
