-- What the names of one module mean: places with numbers, in the order in which they were noted.
use Rattle.std.specs.Prelude.{ℕ, ◌&&◌, nat_eq, if◌then◌else◌, List, [], ◌∷◌, ◌++◌, Option, Some, None}
use Rattle.tla_ast.specs.declared.place.Place.{Place}

-- the number that the name at a place means: the first that was noted there
abbrev pub symbol_at : List (Place × ℕ) → Place → Option ℕ
symbol_at [] p = None
symbol_at (e ∷ es) p = if nat_eq e.0.line p.line && nat_eq e.0.column p.column then Some e.1 else symbol_at es p

abbrev pub unless_found : Option ℕ → Place × ℕ → List (Place × ℕ) → List (Place × ℕ)
unless_found None e es = es ++ e ∷ []
unless_found (Some m) e es = es

-- a number noted at a place that has none
abbrev pub noted : Place → ℕ → List (Place × ℕ) → List (Place × ℕ)
noted p n es = unless_found (symbol_at es p) (p, n) es

-- an entry whose place is given as its line and its column
abbrev pub placed : (ℕ × ℕ) × ℕ → Place × ℕ
placed e = (record { line = e.0.0; column = e.0.1 }, e.1)
