-- What the bank holds.
use Rattle.std.specs.Prelude.{◌≡◌, ℕ, suc, ◌<◌, List, length, map}
use Rattle.std.proofs.Common.{get_or}
use Rattle.core_expr.specs.Tree.{Tree}
use Rattle.core_expr.specs.Loose.{loose}
use Rattle.core_expr.specs.Nodes.{Node, trees_of}
use Rattle.term_bank.specs.Banks.{no_node, tree_at, IsBank}
use Rattle.term_bank.specs.Chains.{hash_of, IsLinked}
use Rattle.term_bank.specs.declared.node.BankNode.{BankNode}
use Rattle.term_bank.specs.declared.node.Slot.{Slot}
use Rattle.term_bank.specs.declared.reach.Reach.{Reach}
use Rattle.term_bank.specs.declared.reach.Reach.TheVariants.{Closed, Upto}

abbrev pub node_of : BankNode → Node
node_of n = record { head = n.head; numbers = n.numbers.items; parts = n.parts.items }

-- one more than the greatest loose variable, or 0
abbrev pub reach_count : Reach → ℕ
reach_count Closed = 0
reach_count (Upto i) = suc i

abbrev pub nodes_of : List Slot → List Node
nodes_of slots = map (λ (s : Slot). node_of s.node) slots

abbrev pub hashes_of : List Slot → List ℕ
hashes_of slots = map (λ (s : Slot). s.hash) slots

abbrev pub nexts_of : List Slot → List ℕ
nexts_of slots = map (λ (s : Slot). s.next) slots

abbrev pub reaches_of : List Slot → List ℕ
reaches_of slots = map (λ (s : Slot). reach_count s.reach) slots

abbrev pub trees : List Slot → List Tree
trees slots = trees_of (nodes_of slots)

-- this node stands at i
abbrev pub StandsAt : List Slot → ℕ → Node → Type 0
StandsAt slots i n = (i < length slots) × (get_or (nodes_of slots) i no_node ≡ n)

-- this node stands nowhere
abbrev pub IsAbsent : List Slot → Node → Type 0
IsAbsent slots n = (i : ℕ) → i < length slots → get_or (nodes_of slots) i no_node ≡ n → ⊥

-- each node is kept with its hash
abbrev pub AreHashed : List Slot → Type 0
AreHashed slots = (i : ℕ) → i < length slots → get_or (hashes_of slots) i 0 ≡ hash_of (get_or (nodes_of slots) i no_node)

-- each node is kept with the reach of its loose variables
abbrev pub AreReached : List Slot → Type 0
AreReached slots = (i : ℕ) → i < length slots → get_or (reaches_of slots) i 0 ≡ loose (tree_at (trees slots) i)

-- the nodes are linked through these buckets
abbrev pub AreLinked : List Slot → List ℕ → Type 0
AreLinked slots buckets = IsLinked (hashes_of slots) (nexts_of slots) buckets (length slots)

pub record IsHeld (slots : List Slot) (buckets : List ℕ) : Type 0 where
  pub bank : IsBank (nodes_of slots) (trees slots)
  pub hashed : AreHashed slots
  pub linked : AreLinked slots buckets
  pub some : 0 < length buckets
  pub reached : AreReached slots
