-- Putting a closed tree in for the outermost loose variable, over shared nodes.
use Rattle.std.specs.Prelude.{◌≡◌, ℕ, suc, ◌+◌, ◌<◌, Bool, true, ◌&&◌, cond, nat_eq, max, pred, Option, Some, List, [], ◌∷◌, ◌++◌, length, ◌⊎◌}
use Rattle.std.proofs.Common.{get_or}
use Rattle.std.specs.Ordering.{nat_cmp}
use Rattle.std.specs.Map.{lookup}
use Rattle.std.specs.BTreeMap.{is_at}
use Rattle.core_expr.specs.Tree.{Tree, true_}
use Rattle.core_expr.specs.Tree.Parts.{end, part}
use Rattle.core_expr.specs.Put.{put}
use Rattle.core_expr.specs.Nodes.{Node, AreBelow}
use Rattle.core_expr.specs.Loose.{loose}
use Rattle.term_bank.specs.Loose.{is_binder}
use Rattle.term_bank.specs.Banks.{HasNode, HasTree}

-- e with t for its outermost loose variable
abbrev pub image : Tree → Tree → Tree
image t e = put (pred (loose e)) (part t end) e

-- the part k of a node with so many parts stands under its binder
abbrev pub is_body : ℕ → ℕ → ℕ → Bool
is_body h k n = is_binder h && nat_eq (k + 1) n

-- the tree of the part k
abbrev pub part_tree : List Tree → Node → ℕ → Tree
part_tree ts n k = get_or ts (get_or n.parts k 0) true_

-- how far the loose variables of the part k go, seen from the node
abbrev pub reach_of : List Tree → Node → ℕ → ℕ
reach_of ts n k = cond (is_body n.head k (length n.parts)) (pred (loose (part_tree ts n k))) (loose (part_tree ts n k))

-- the part k has the outermost loose variable of the node, whose loose count is d
abbrev pub needs_image : List Tree → Node → ℕ → ℕ → Bool
needs_image ts n d k = nat_eq (reach_of ts n k) d

abbrev pub In : ℕ → List ℕ → Type 0
In q [] = ⊥
In q (p ∷ ps) = (q ≡ p) ⊎ In q ps

-- q is a part that has the variable
pub record IsNeeded (ts : List Tree) (n : Node) (d q : ℕ) : Type 0 where
  pub place : ℕ
  pub within : place < length n.parts
  pub needs : needs_image ts n d place ≡ true
  pub is : get_or n.parts place 0 ≡ q

-- the first k parts that have the variable were added, and nothing else
pub record IsAdded (ts : List Tree) (n : Node) (d k : ℕ) (old new : List ℕ) : Type 0 where
  pub kept : (q : ℕ) → In q old → In q new
  pub needed : (j : ℕ) → j < k → needs_image ts n d j ≡ true → In (get_or n.parts j 0) new
  pub only : (q : ℕ) → In q new → In q old ⊎ IsNeeded ts n d q

-- a tree with loose variables
abbrev pub IsTouched : List Tree → ℕ → Type 0
IsTouched ts q = (q < length ts) × (0 < loose (get_or ts q true_))

-- the parts of the node at i that have its outermost variable are among these
abbrev pub HasParts : List Tree → ℕ → List ℕ → Type 0
HasParts ts i others = (n : Node) → HasNode ts i n → AreBelow i n.parts → (k : ℕ) → k < length n.parts → needs_image ts n (loose (get_or ts i true_)) k ≡ true → In (get_or n.parts k 0) others

-- the node at i was taken, and its parts that have the variable were added
pub record IsStep (ts : List Tree) (i : ℕ) (old new : List ℕ) : Type 0 where
  pub kept : (q : ℕ) → In q old → In q new
  pub parts : HasParts ts i new
  pub only : (q : ℕ) → In q new → In q old ⊎ ((q < i) × (IsTouched ts i → IsTouched ts q))

-- so for each of these, after it or to do
abbrev pub AreCovered : List Tree → List ℕ → List ℕ → Type 0
AreCovered ts [] todo = Unit {0}
AreCovered ts (i ∷ is) todo = IsTouched ts i × HasParts ts i (is ++ todo) × AreCovered ts is todo

-- one more than the greatest
abbrev pub height : List ℕ → ℕ
height [] = 0
height (q ∷ qs) = max (suc q) (height qs)

-- on the way: what is done and what is to do
pub record IsOnWay (ts : List Tree) (body : ℕ) (done todo : List ℕ) : Type 0 where
  pub covered : AreCovered ts done todo
  pub touched : (q : ℕ) → In q todo → IsTouched ts q
  pub has_body : In body (done ++ todo)

-- the value at a key
abbrev pub found : ℕ → List (ℕ × ℕ) → Option ℕ
found q es = lookup (is_at (nat_cmp q)) es

-- the image of the tree at q is known
pub record HasImage (ts : List Tree) (t : Tree) (images : List (ℕ × ℕ)) (q : ℕ) : Type 0 where
  pub within : q < length ts
  pub index : ℕ
  pub found_is : found q images ≡ Some index
  pub tree : HasTree ts index (image t (get_or ts q true_))

abbrev pub HaveImages : List Tree → Tree → List (ℕ × ℕ) → List ℕ → Type 0
HaveImages ts t images is = (q : ℕ) → In q is → HasImage ts t images q

-- the part k with t for the outermost variable of the node
abbrev pub moved_tree : List Tree → Node → ℕ → Tree → ℕ → Tree
moved_tree ts n d t k = cond (needs_image ts n d k) (image t (part_tree ts n k)) (part_tree ts n k)

-- the first k of the parts with t for it
pub record AreMoved (ts : List Tree) (n : Node) (d : ℕ) (t : Tree) (k : ℕ) (is : List ℕ) : Type 0 where
  pub count : length is ≡ k
  pub parts : (j : ℕ) → j < k → HasTree ts (get_or is j 0) (moved_tree ts n d t j)

-- the images of the parts that have the variable are known
abbrev pub NeedsImages : List Tree → Node → ℕ → Tree → List (ℕ × ℕ) → Type 0
NeedsImages ts n d t images = (k : ℕ) → k < length n.parts → needs_image ts n d k ≡ true → HasImage ts t images (get_or n.parts k 0)

-- so for the node at i
abbrev pub ImagesOfParts : List Tree → ℕ → Tree → List (ℕ × ℕ) → Type 0
ImagesOfParts ts i t images = (n : Node) → HasNode ts i n → AreBelow i n.parts → NeedsImages ts n (loose (get_or ts i true_)) t images

-- the image of the tree at i is new, and the others stay
abbrev pub KeepsImages : List Tree → List Tree → Tree → ℕ → List (ℕ × ℕ) → List (ℕ × ℕ) → Type 0
KeepsImages ts now t i old new = HasImage now t new i × ((q : ℕ) → HasImage ts t old q → HasImage now t new q)
