-- What is in scope: names with the numbers of their declarations, the oldest first.
use Rattle.std.specs.Prelude.{ℕ, if◌then◌else◌, List, [], ◌∷◌, Option, Some, None}
use Rattle.std.specs.Borrow.{Bor}
use Rattle.plain_syntax.specs.Plain.{Text}
use Rattle.expression_level.specs.Levels.{is_word}

abbrev pub Scope : Type 0
Scope = List (Text × ℕ)

-- a name with its number, where the name is borrowed
abbrev pub seen : Bor (List ℕ) × ℕ → Text × ℕ
seen e = (e.0.now, e.1)

-- the newest declaration of a name
abbrev pub found : Text → Scope → Option ℕ
found w [] = None
found w (e ∷ es) = elim (found w es) [ Some n ↦ Some n | None ↦ if is_word e.0 w then Some e.1 else None ]
