-- Walks over shared nodes by their indices.
use Rattle.std.specs.Prelude.{◌≡◌, ◌↔◌, ◌⊎◌, ℕ, ◌<◌, cond, true, Option, Some, None, IsSome, List, [], ◌∷◌, ◌++◌, length, map}
use Rattle.std.specs.Ordering.{nat_cmp}
use Rattle.std.specs.BTreeMap.{is_at}
use Rattle.core_expr.specs.Tree.{Tree}
use Rattle.core_expr.specs.Terms.{same}
use Rattle.core_expr.specs.Nodes.{Node, AreBelow, node_make, picked}
use Rattle.search_definition.specs.Terms.{if_so, occurs}
use Rattle.term_bank.specs.Banks.{HasNode, HasTree, tree_at}
use Rattle.term_bank.specs.Images.{In, found}
use Rattle.term_walks.specs.Moved.{moved}

-- the answer, or the index itself
abbrev pub or_index : Option ℕ → ℕ → ℕ
or_index None q = q
or_index (Some k) q = k

-- the image of an index, itself where none is kept
abbrev pub image_at : List (ℕ × ℕ) → ℕ → ℕ
image_at es q = or_index (found q es) q

-- the tree that these pairs of indices give for a tree
abbrev pub given : List Tree → List (ℕ × ℕ) → Tree → Option Tree
given ts [] x = None
given ts (p ∷ ps) x = if_so (same (tree_at ts p.0) x) (Some (tree_at ts p.1)) (given ts ps x)

-- the tree at an index, where there is one
abbrev pub tree_for : List Tree → Option ℕ → Option Tree
tree_for ts None = None
tree_for ts (Some k) = Some (tree_at ts k)

-- the indices of the pairs are below n
abbrev pub AreWithin : ℕ → List (ℕ × ℕ) → Type 0
AreWithin n es = (q k : ℕ) → found q es ≡ Some k → (q < n) × (k < n)

-- the parts of the node at i were added, and nothing else
pub record IsAdded (ts : List Tree) (i : ℕ) (old new : List ℕ) : Type 0 where
  pub node : Node
  pub stands : HasNode ts i node
  pub below : AreBelow i node.parts
  pub members : (q : ℕ) → In q new ↔ (In q node.parts ⊎ In q old)

-- the parts of the node at i are among these
pub record HasParts (ts : List Tree) (i : ℕ) (others : List ℕ) : Type 0 where
  pub node : Node
  pub stands : HasNode ts i node
  pub below : AreBelow i node.parts
  pub parts : (q : ℕ) → In q node.parts → In q others

-- the node at i was taken, and its parts were added, unless it has an image
pub record IsTurn (ts : List Tree) (images : List (ℕ × ℕ)) (i : ℕ) (old new : List ℕ) : Type 0 where
  pub kept : (q : ℕ) → In q old → In q new
  pub parts : found i images ≡ None → HasParts ts i new
  pub only : (q : ℕ) → In q new → In q old ⊎ (q < i)

-- the parts of each of these without an image come after it or are to do
abbrev pub AreWalked : List Tree → List (ℕ × ℕ) → List ℕ → List ℕ → Type 0
AreWalked ts images [] todo = Unit {0}
AreWalked ts images (i ∷ is) todo = (i < length ts) × (found i images ≡ None → HasParts ts i (is ++ todo)) × AreWalked ts images is todo

-- a walk from e: what is done and what is to do
pub record IsWalk (ts : List Tree) (images : List (ℕ × ℕ)) (e : ℕ) (done todo : List ℕ) : Type 0 where
  pub walked : AreWalked ts images done todo
  pub within : (q : ℕ) → In q todo → q < length ts
  pub has_start : In e (done ++ todo)

-- the node at k is the one at i over the images of its parts
abbrev pub IsRemade : List Tree → List Tree → List (ℕ × ℕ) → ℕ → ℕ → Type 0
IsRemade ts now images i k = (k < length now) × ((n : Node) → HasNode ts i n → HasTree now k (node_make n.head n.numbers (picked ts (map (image_at images) n.parts))))

-- the image of the node at i is new, and the others stay
pub record IsKept (ts now : List Tree) (i : ℕ) (old new : List (ℕ × ℕ)) : Type 0 where
  pub none : found i old ≡ None
  pub index : ℕ
  pub remade : IsRemade ts now old i index
  pub images : (q : ℕ) → found q new ≡ cond (is_at (nat_cmp i) q) (Some index) (found q old)

-- the node at i had an image, or has got one
abbrev pub KeepsImage : List Tree → List Tree → ℕ → List (ℕ × ℕ) → List (ℕ × ℕ) → Type 0
KeepsImage ts now i old new = (IsSome (found i old) × (new ≡ old)) ⊎ IsKept ts now i old new

-- the image of each index that has one is its tree with what r gives, and so is that of each of these; r gives nothing for the others
pub record AreMoved (ts now : List Tree) (r : Tree → Option Tree) (images : List (ℕ × ℕ)) (done : List ℕ) : Type 0 where
  pub right : (q k : ℕ) → q < length ts → found q images ≡ Some k → HasTree now k (moved r (tree_at ts q))
  pub others : (q : ℕ) → q < length ts → found q images ≡ None → r (tree_at ts q) ≡ None
  pub has : (q : ℕ) → In q done → HasTree now (image_at images q) (moved r (tree_at ts q))

-- the term at s occurs in the one at e exactly where it occurs in one of those that are to do
pub record IsSought (ts : List Tree) (s e : ℕ) (todo : List ℕ) : Type 0 where
  pub within : (q : ℕ) → In q todo → q < length ts
  pub up : (q : ℕ) → In q todo → occurs (tree_at ts s) (tree_at ts q) ≡ true → occurs (tree_at ts s) (tree_at ts e) ≡ true
  pub down : occurs (tree_at ts s) (tree_at ts e) ≡ true → (q : ℕ) × In q todo × (occurs (tree_at ts s) (tree_at ts q) ≡ true)
