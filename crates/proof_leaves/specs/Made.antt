-- What the code does with steps: the leaves that it adds, the context that it leaves, and what it keeps of the one before.
use Rattle.std.specs.Prelude.{◌≡◌, Bool, true, false, Option, Some, None, List, [], ◌∷◌, ◌++◌, length}
use Rattle.tla_ast.specs.declared.place.Place.{Place}
use Rattle.obligation.specs.declared.obligation.Definition.{Definition}
use Rattle.proof_contexts.specs.declared.leaf.Leaf.{Leaf}
use Rattle.proof_contexts.specs.declared.leaf.LeafKind.TheVariants as kind
use Rattle.proof_contexts.specs.Steps.{Proof, Step}
use Rattle.proof_contexts.specs.Contexts.{Context, inside, after}
use Rattle.proof_contexts.specs.Leaves.{a_leaf, own_leaves, leaves}
use Rattle.proof_leaves.specs.declared.entering.Entered.{Entered}

-- ms is ls with the leaves of a proof behind, in every context
abbrev pub AddsLeaves : Proof → List Leaf → List Leaf → Type 0
AddsLeaves p ls ms = (defs : List Definition) (c : Context) → ms ≡ ls ++ leaves defs p c

-- the leaf that stands for the rest of the steps, where there is no context after a step
abbrev pub ended : Place → Option Context → List Leaf
ended p None = a_leaf p kind.Shape ∷ []
ended p (Some d) = []

-- the context after a step, where the proof goes on
abbrev pub going : Bool → Context → Option Context
going true d = Some d
going false d = None

-- the context after a step is d; or there is none, and d is the one before it
abbrev pub Goes : List Definition → Step → Context → Bool → Context → Type 0
Goes defs s c true d = after defs s c ≡ Some d
Goes defs s c false d = (after defs s c ≡ None) × (d ≡ c)

-- A step without a proof of its own, at a place and in the context c, adds its leaves to ls, which makes them ms. The proof goes on
-- in the context d, or a leaf says that it does not.
abbrev pub Made : List Definition → Place → Step → Context → List Leaf → Bool → Context → List Leaf → Type 0
Made defs p s c ls on d ms =
    (ms ≡ ls ++ (own_leaves defs p s c ++ ended p (after defs s c))) × (after defs s c ≡ going on d)

-- the context d is the one inside of a step, of which c is the context; the definitions do not matter
abbrev pub IsInside : Step → Context → Context → Type 0
IsInside s c d = (defs : List Definition) → d ≡ inside defs s c

-- the context d is the one after a step, of which c is the context; the definitions do not matter
abbrev pub IsAfter : Step → Context → Context → Type 0
IsAfter s c d = (defs : List Definition) → after defs s c ≡ Some d

-- what is kept of the context of a step while its own proof is read
pub record IsEntered (e : Entered) (c : Context) : Type 0 where
  pub mark : e.mark ≡ length c.known
  pub goal : e.goal ≡ c.goal
