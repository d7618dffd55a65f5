-- Lines and columns, from 1.
use Rattle.std.specs.Prelude.{ℕ, ◌+◌, ◌*◌, ◌/◌, if◌then◌else◌, ◌==◌, List, [], ◌∷◌}
use Rattle.tla_ast.specs.declared.place.Place.{Place}

-- the place after a byte: a line feed begins a line, and a tab moves to the next column of the form 8j + 1
abbrev pub moved : Place → ℕ → Place
moved p b =
    if b == 10 then record { line = p.line + 1; column = 1 }
    else (if b == 9 then record { line = p.line; column = 8 * ((p.column + 7) / 8) + 1 } else record { line = p.line; column = p.column + 1 })

-- the place after these bytes
abbrev pub after : Place → List ℕ → Place
after p [] = p
after p (b ∷ bs) = after (moved p b) bs

-- the first place of a text
abbrev pub first : Place
first = record { line = 1; column = 1 }
