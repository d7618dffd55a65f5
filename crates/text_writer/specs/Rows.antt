-- Entering the nodes of an expression in the order in which it keeps them.
use Rattle.std.specs.Prelude.{ℕ, ◌-◌, List, [], ◌∷◌, ◌++◌, length, take, drop}
use Rattle.core_expr.specs.declared.row.Row.{Row}
use Rattle.text_writer.specs.Tables.{Placed, AllPlaced, put, node_over}

-- the places that are left below the last n
abbrev pub below_last : ℕ → List ℕ → List ℕ
below_last n ps = take (length ps - n) ps

-- the last n places
abbrev pub last_places : ℕ → List ℕ → List ℕ
last_places n ps = drop (length ps - n) ps

-- a node stands for its parts, the last places
abbrev pub completed : Row → AllPlaced → Placed
completed r a = put (node_over r.kind r.numbers (last_places r.parts a.places)) a.nodes

abbrev pub next : Row → AllPlaced → AllPlaced
next r a = record { nodes = (completed r a).nodes; places = below_last r.parts a.places ++ (completed r a).place ∷ [] }

-- the table and the places once all these nodes are completed
abbrev pub run : List Row → AllPlaced → AllPlaced
run [] a = a
run (r ∷ rs) a = run rs (next r a)
