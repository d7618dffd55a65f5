-- Bytes cut into lines.
use Rattle.std.specs.Prelude.{ℕ, cond, nat_eq, List, [], ◌∷◌}

-- a byte in front of the first line
abbrev pub joined : ℕ → List (List ℕ) → List (List ℕ)
joined b [] = (b ∷ []) ∷ []
joined b (l ∷ ls) = (b ∷ l) ∷ ls

-- a byte before lines: a line feed ends a line that has nothing in it yet
abbrev pub before_lines : ℕ → List (List ℕ) → List (List ℕ)
before_lines b ls = cond (nat_eq b 10) ([] ∷ ls) (joined b ls)

-- the lines, without the line feeds that end them; behind the last line feed there is one only where bytes are left
abbrev pub lines_of : List ℕ → List (List ℕ)
lines_of [] = []
lines_of (b ∷ bs) = before_lines b (lines_of bs)
