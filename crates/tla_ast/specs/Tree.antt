-- Which node is dropped next.
use Rattle.std.specs.Prelude.{◌≡◌, List, [], ◌∷◌, ◌++◌, ◌⊎◌, Option, Some, None}
use Rattle.tla_ast.specs.declared.place.Place.{Place}
use Rattle.tla_ast.specs.declared.tree.Node.{Node, roll-Node}
use Rattle.tla_ast.specs.declared.tree.Form.TheVariants.{Tuple}

-- a node that holds these
abbrev pub plain : Place → List Node → Node
plain place nodes = roll-Node (record { form = Tuple; parts = nodes; place = place })

-- the last of all nodes and those before it, or the first part, with the rest in a plain node in its place
abbrev pub Follows : List Node → List Node → Place → Option (Node × List Node) → Type 0
Follows rest parts place None = rest ++ parts ≡ []
Follows rest parts place (Some p) = (rest ++ parts ≡ p.1 ++ p.0 ∷ []) ⊎ ((others : List Node) × (parts ≡ p.0 ∷ others) × (p.1 ≡ plain place rest ∷ others))
