-- Nodes of a table whose expressions are being made: each waits for its next part, the last for what is made now.
use Rattle.std.specs.Prelude.{◌≡◌, ℕ, ◌<◌, ◌≤◌, List, [], ◌∷◌, length, take}
use Rattle.std.proofs.Common.{get_or}
use Rattle.core_expr.specs.Nodes.{picked}
use Rattle.seq_calculus.specs.declared.lists.ProofNode.{ProofNode}
use Rattle.proof_text.specs.declared.frames.Frame.{Frame}
use Rattle.proof_text.specs.declared.frames.Turn.{Turn}
use Rattle.proof_text.specs.declared.frames.Turn.TheVariants.{Next, Done}
use Rattle.proof_text.specs.Texts.{trees_in, tree_in}

abbrev pub no_node : ProofNode
no_node = record { head = 0; numbers = []; parts = [] }

-- the parts of the node at a place
abbrev pub parts_at : List ProofNode → ℕ → List ℕ
parts_at ns i = (get_or ns i no_node).parts

-- the node at i with the expressions of the first of its parts
pub record IsFrame (ns : List ProofNode) (i : ℕ) (f : Frame) : Type 0 where
  pub node : f.node ≡ i
  pub within : i < length ns
  pub count : length f.parts.items ≤ length (parts_at ns i)
  pub parts : f.parts.items ≡ take (length f.parts.items) (picked (trees_in ns) (parts_at ns i))

-- the part that a node waits for
abbrev pub next_part : List ProofNode → Frame → ℕ
next_part ns f = get_or (parts_at ns f.node) (length f.parts.items) 0

-- each waits for the one behind it, the first is the root
abbrev pub AreWaiting : List ProofNode → ℕ → List Frame → Type 0
AreWaiting ns i [] = Unit {0}
AreWaiting ns i (f ∷ fs) = IsFrame ns i f × (length f.parts.items < length (parts_at ns i)) × AreWaiting ns (next_part ns f) fs

-- the node that the last of these waits for
abbrev pub goal_of : List ProofNode → ℕ → List Frame → ℕ
goal_of ns i [] = i
goal_of ns i (f ∷ fs) = goal_of ns (next_part ns f) fs

-- a further node is for what the last one waits for, or the root's expression is made
abbrev pub IsTurn : List ProofNode → ℕ → List Frame → Turn → Type 0
IsTurn ns root fs (Next f) = AreWaiting ns root fs × IsFrame ns (goal_of ns root fs) f
IsTurn ns root fs (Done e) = e ≡ tree_in ns root
