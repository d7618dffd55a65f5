-- The walk that makes a pattern, by tasks.
use Rattle.std.specs.Prelude.{◌≡◌, ℕ, ◌+◌, ◌*◌, ◌<◌, ◌≤◌, ◌⊎◌, Bool, true, false, Option, Some, None, IsSome, List, [], ◌∷◌, ◌++◌, length, map}
use Rattle.core_expr.specs.Tree.{Tree}
use Rattle.core_expr.specs.Tree.Tree.{bound}
use Rattle.core_expr.specs.Terms.{nodes}
use Rattle.core_expr.specs.Nodes.{Node, AreBelow, node_make, picked}
use Rattle.term_bank.specs.Banks.{Extends, IsDistinct, HasNode, HasTree, tree_at}
use Rattle.term_bank.specs.Loose.{is_binder}
use Rattle.term_patterns.specs.Abstracted.{abstracted}
use Rattle.term_patterns.specs.declared.spots.Spot.{Spot}
use Rattle.term_patterns.specs.declared.tasks.Task.{Task}
use Rattle.term_patterns.specs.declared.tasks.Task.TheVariants.{Visit, Build}
use Rattle.term_patterns.specs.Depths.{spot, spots_under, image_at, kept}

-- the term is a variable
abbrev pub is_bound : Tree → Bool
is_bound (bound i) = true
is_bound _ = false

-- the image, or the node itself
abbrev pub or_node : Option ℕ → ℕ → ℕ
or_node None q = q
or_node (Some k) q = k

abbrev pub image_or : List (Spot × ℕ) → Spot → ℕ
image_or es p = or_node (image_at es p) p.node

-- the images are below n
abbrev pub AreWithin : ℕ → List (Spot × ℕ) → Type 0
AreWithin n es = (p : Spot) (k : ℕ) → image_at es p ≡ Some k → k < n

-- where a task is
abbrev pub spot_of : Task → Spot
spot_of (Visit p) = p
spot_of (Build p) = p

-- the node at q, which is not s, and its parts
pub record HasSpots (ts : List Tree) (s : ℕ) (q : Spot) (ps : List Spot) : Type 0 where
  pub other : q.node ≡ s → ⊥
  pub node : Node
  pub stands : HasNode ts q.node node
  pub below : AreBelow q.node node.parts
  pub spots : ps ≡ spots_under (is_binder node.head) q.depth node.parts

-- these have to have images first
abbrev pub IsPartOf : List Tree → ℕ → Spot → List Spot → Type 0
IsPartOf ts s q ps = ((q.node ≡ s) × (ps ≡ [])) ⊎ HasSpots ts s q ps

-- the visit found an image, or it left its parts to do
abbrev pub IsVisited : List Tree → ℕ → List (Spot × ℕ) → Spot → List Task → List Task → Type 0
IsVisited ts s es q old new = (IsSome (image_at es q) × (new ≡ old)) ⊎ ((ps : List Spot) × IsPartOf ts s q ps × (new ≡ (old ++ Build q ∷ []) ++ map Visit ps))

-- the node at q over the images of its parts
pub record IsRemade (ts now : List Tree) (s : ℕ) (q : Spot) (es : List (Spot × ℕ)) (k : ℕ) : Type 0 where
  pub parts : List Spot
  pub has : HasSpots ts s q parts
  pub tree : HasTree now k (node_make has.node.head has.node.numbers (picked ts (map (image_or es) parts)))

-- the image at k: the variable of the depth for s, or the node over the images of its parts
abbrev pub IsMade : List Tree → List Tree → ℕ → Spot → List (Spot × ℕ) → ℕ → Type 0
IsMade ts now s q es k = ((q.node ≡ s) × HasTree now k (bound q.depth)) ⊎ IsRemade ts now s q es k

-- an image was made and kept
abbrev pub IsBuilt : List Tree → List Tree → ℕ → Spot → List (Spot × ℕ) → List (Spot × ℕ) → Type 0
IsBuilt ts now s q old new = (k : ℕ) × IsMade ts now s q old k × (new ≡ kept q k old)

-- the task was done
abbrev pub IsTurn : List Tree → List Tree → ℕ → Task → List Task → List Task → List (Spot × ℕ) → List (Spot × ℕ) → Type 0
IsTurn ts now s (Visit q) old new es fs = IsVisited ts s es q old new × (fs ≡ es)
IsTurn ts now s (Build q) old new es fs = IsBuilt ts now s q es fs × (new ≡ old)

-- a task at p is among these
abbrev pub IsToDo : Spot → List Task → Type 0
IsToDo p [] = ⊥
IsToDo p (t ∷ tasks) = (spot_of t ≡ p) ⊎ IsToDo p tasks

-- p has an image, or will have one
abbrev pub IsReady : List (Spot × ℕ) → List Task → Spot → Type 0
IsReady es tasks p = IsSome (image_at es p) ⊎ IsToDo p tasks

-- so for each of these
abbrev pub AreReady : List (Spot × ℕ) → List Task → List Spot → Type 0
AreReady es tasks [] = Unit {0}
AreReady es tasks (p ∷ ps) = IsReady es tasks p × AreReady es tasks ps

-- what has to have images first has them, or comes first
abbrev pub IsSupported : List Tree → ℕ → List (Spot × ℕ) → Task → List Task → Type 0
IsSupported ts s es (Visit q) later = Unit {0}
IsSupported ts s es (Build q) later = (ps : List Spot) → IsPartOf ts s q ps → AreReady es later ps

-- so for each task, of which the last comes first
abbrev pub AreSupported : List Tree → ℕ → List (Spot × ℕ) → List Task → Type 0
AreSupported ts s es [] = Unit {0}
AreSupported ts s es (t ∷ tasks) = IsSupported ts s es t tasks × AreSupported ts s es tasks

-- the node and the depth of each task together are at most e
abbrev pub AreUnder : ℕ → List Task → Type 0
AreUnder e [] = Unit {0}
AreUnder e (t ∷ tasks) = ((spot_of t).node + (spot_of t).depth ≤ e) × AreUnder e tasks

-- more than the steps that the tasks take
abbrev pub weight : List Tree → Task → ℕ
weight ts (Visit q) = 2 * nodes (tree_at ts q.node)
weight ts (Build q) = 1

abbrev pub weights : List Tree → List Task → ℕ
weights ts [] = 0
weights ts (t ∷ tasks) = weight ts t + weights ts tasks

-- the image at p is its pattern
pub record IsImage (ts now : List Tree) (s : ℕ) (p : Spot) (k : ℕ) : Type 0 where
  pub node : p.node < length ts
  pub tree : HasTree now k (abstracted (tree_at ts s) p.depth (tree_at ts p.node))

-- on the way to the pattern of e
pub record IsOnWay (ts now : List Tree) (s e : ℕ) (tasks : List Task) (es : List (Spot × ℕ)) : Type 0 where
  pub extends : Extends ts now
  pub distinct : IsDistinct now
  pub images : (p : Spot) (k : ℕ) → image_at es p ≡ Some k → IsImage ts now s p k
  pub under : AreUnder e tasks
  pub supported : AreSupported ts s es tasks
  pub start : IsReady es tasks (spot e 0)
