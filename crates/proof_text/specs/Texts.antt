-- Flat lists of obligations.
use Rattle.std.specs.Prelude.{◌≡◌, ℕ, ◌<◌, List, [], ◌∷◌, ◌++◌, length, map}
use Rattle.std.specs.List.{flat_map}
use Rattle.std.proofs.Common.{get_or}
use Rattle.core_expr.specs.declared.canon.Canon.{Canon}
use Rattle.core_expr.specs.Tree.{Tree, true_}
use Rattle.core_expr.specs.Heads.{IsCanonical}
use Rattle.core_expr.specs.Nodes.{AreBelow, AreNodes, picked, trees_of}
use Rattle.seq_calculus.specs.declared.lists.ProofNode.{ProofNode}
use Rattle.seq_calculus.specs.Lists.{Lists, AreLists, node_of, written, written_node}

-- an obligation as a table of nodes, the places of its facts and that of its goal
pub record Obligation : Type 0 where
  pub nodes : List ProofNode
  pub facts : List ℕ
  pub goal : ℕ

-- each index is below its own, and the facts and the goal stand in the table
pub record IsObligation (o : Obligation) : Type 0 where
  pub nodes : AreNodes 0 (map node_of o.nodes)
  pub facts : AreBelow (length o.nodes) o.facts
  pub goal : o.goal < length o.nodes

-- an obligation as it is written: a count and the nodes, a count and the facts, the goal
unfoldable pub written_obligation : Obligation → List ℕ
written_obligation o = length o.nodes ∷ (flat_map written_node o.nodes ++ length o.facts ∷ (o.facts ++ o.goal ∷ []))

-- the trees of a table
abbrev pub trees_in : List ProofNode → List Tree
trees_in ns = trees_of (map node_of ns)

-- the tree at a place of a table
abbrev pub tree_in : List ProofNode → ℕ → Tree
tree_in ns i = get_or (trees_in ns) i true_

-- the canonical form that an obligation stands for
abbrev pub canon_of : Obligation → Canon
canon_of o = record { facts = picked (trees_in o.nodes) o.facts; goal = get_or (trees_in o.nodes) o.goal true_ }

-- the symbols of each are those of a canonical form, and there is no temporal mark
abbrev pub AreCanonical : List Tree → Type 0
AreCanonical [] = Unit {0}
AreCanonical (t ∷ ts) = IsCanonical t × AreCanonical ts

-- the same for the facts and the goal
abbrev pub IsCanonicalForm : Canon → Type 0
IsCanonicalForm c = AreCanonical c.facts × IsCanonical c.goal

-- the list is how an obligation is written that stands for this canonical form
abbrev pub Shows : List ℕ → Canon → Type 0
Shows l c = (o : Obligation) × IsObligation o × (written_obligation o ≡ l) × (c ≡ canon_of o)

-- the list is how an obligation is written
abbrev pub IsCanonText : List ℕ → Type 0
IsCanonText l = (o : Obligation) × IsObligation o × (written_obligation o ≡ l)

-- the list is how a proof is written
abbrev pub IsProofText : List ℕ → Type 0
IsProofText l = (p : Lists) × AreLists p × (written p ≡ l)

-- proofs that are written alike are the same
abbrev pub ProofsDiffer : Type 0
ProofsDiffer = (a b : Lists) → AreLists a → AreLists b → written a ≡ written b → a ≡ b

-- obligations that are written alike are the same
abbrev pub ObligationsDiffer : Type 0
ObligationsDiffer = (a b : Obligation) → IsObligation a → IsObligation b → written_obligation a ≡ written_obligation b → a ≡ b
