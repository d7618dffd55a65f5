-- The text of a demonstration module.
use Rattle.std.specs.Prelude.{ℕ, zero, suc, ◌%◌, nat_eq, Bool, true, false, List, [], ◌++◌, codes, decimal}

-- the constant with this number
abbrev pub symbol : ℕ → List ℕ
symbol i = codes "A" ++ decimal i

-- one implies the other
abbrev pub implication : ℕ → ℕ → List ℕ
implication i j = codes "(" ++ symbol i ++ codes " => " ++ symbol j ++ codes ")"

-- the constant 0 implies the constant 1, and so on for so many more
abbrev pub links : ℕ → List ℕ
links zero = implication 0 1
links (suc n) = links n ++ codes " /\\ " ++ implication (suc n) (suc (suc n))

-- the constant 0 and so many more
unfoldable pub constants : ℕ → List ℕ
constants zero = symbol 0
constants (suc n) = constants n ++ codes ", " ++ symbol (suc n)

-- the first, where the test holds, or else the second
abbrev pub chosen : Bool → List ℕ → List ℕ → List ℕ
chosen true xs ys = xs
chosen false xs ys = ys

-- what the theorem with a number asks for of a chain whose last constant is given: the wrong direction where 10 divides the number
abbrev pub ends : ℕ → ℕ → List ℕ
ends i last = chosen (nat_eq (i % 10) 0) (implication last 0) (implication 0 last)

-- the line of the theorem with a number
abbrev pub theorem_line : ℕ → List ℕ
theorem_line i =
    codes "THEOREM T" ++ decimal i ++ codes " == " ++ links (i % 50) ++ codes " => " ++ ends i (suc (i % 50)) ++ codes " OBVIOUS\n"

-- the first so many theorems
abbrev pub theorems : ℕ → List ℕ
theorems zero = []
theorems (suc n) = theorems n ++ theorem_line (suc n)

-- the module with this name and so many theorems
abbrev pub demo_text : List ℕ → ℕ → List ℕ
demo_text name n = codes "---- MODULE " ++ name ++ codes " ----\nCONSTANTS " ++ constants 50 ++ codes "\n" ++ theorems n ++ codes "====\n"
