-- Left sides by numbers.
use Rattle.std.specs.Prelude.{◌≡◌, ℕ, Option, Some, None, List}
use Rattle.core_expr.specs.Tree.{Tree}
use Rattle.core_expr.specs.Nodes.{AreBelow, picked}
use Rattle.search_definition.specs.Plain.{Left}
use Rattle.rule_proofs.specs.declared.left.LeftSide.{LeftSide}

-- the left side of this schema with these parameters
abbrev pub left_of : ℕ → ℕ → List ℕ → Option LeftSide
left_of k z ps = Some (record { schema = k; z = z; params = ps })

-- the numbers say this left side
abbrev pub IsLeft : List Tree → Option LeftSide → Option Left → Type 0
IsLeft ts None None = Unit {0}
IsLeft ts (Some l) (Some m) = (l.schema ≡ m.schema) × (l.z ≡ m.z) × (picked ts l.params ≡ m.params)
IsLeft ts _ _ = ⊥

-- its numbers are below n
abbrev pub AreUnder : ℕ → Option LeftSide → Type 0
AreUnder n None = Unit {0}
AreUnder n (Some l) = AreBelow n l.params

-- the tree is the right side, where there is one
abbrev pub IsRight : Option Left → Tree → Type 0
IsRight None t = Unit {0}
IsRight (Some l) t = l.right ≡ t
