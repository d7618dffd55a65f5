-- The operators of the language, with their precedences.
use Rattle.std.specs.Prelude.{ℕ, Bool, true, false, if◌then◌else◌, nat_eq, List, [], ◌∷◌, Option, Some, None, codes}
use Rattle.std.specs.Cmp.Lexicographic.{pointwise}
use Rattle.std_names.specs.declared.operators.Fix.{Fix}
use Rattle.std_names.specs.declared.operators.Fix.TheVariants.{Prefix, Infix, Postfix}

-- sign, low, high, and whether left-associative
abbrev pub Row : Type 0
Row = List ℕ × ℕ × ℕ × Bool

unfoldable pub prefix_rows : List Row
prefix_rows =
    (codes "~", 4, 4, false) ∷
    (codes "SUBSET", 8, 8, false) ∷
    (codes "UNION", 8, 8, false) ∷
    (codes "DOMAIN", 9, 9, false) ∷
    (codes "-", 12, 12, false) ∷
    (codes "UNCHANGED", 4, 15, false) ∷
    (codes "[]", 4, 15, false) ∷
    (codes "<>", 4, 15, false) ∷
    (codes "ENABLED", 4, 15, false) ∷ []

unfoldable pub infix_rows : List Row
infix_rows =
    (codes "=>", 1, 1, false) ∷
    (codes "<=>", 2, 2, false) ∷
    (codes "~>", 2, 2, false) ∷
    (codes "/\\", 3, 3, true) ∷
    (codes "\\/", 3, 3, true) ∷
    (codes "=", 5, 5, false) ∷
    (codes "#", 5, 5, false) ∷
    (codes "<", 5, 5, false) ∷
    (codes ">", 5, 5, false) ∷
    (codes "<=", 5, 5, false) ∷
    (codes ">=", 5, 5, false) ∷
    (codes "\\in", 5, 5, false) ∷
    (codes "\\notin", 5, 5, false) ∷
    (codes "\\subseteq", 5, 5, false) ∷
    (codes "\\cup", 8, 8, true) ∷
    (codes "\\cap", 8, 8, true) ∷
    (codes "\\", 8, 8, false) ∷
    (codes "..", 9, 9, false) ∷
    (codes "+", 10, 10, true) ∷
    (codes "-", 11, 11, true) ∷
    (codes "*", 13, 13, true) ∷ []

-- the sign of `f[e]` is `[`, that of `r.h` is `.`
unfoldable pub postfix_rows : List Row
postfix_rows =
    (codes "'", 15, 15, false) ∷
    (codes "[", 16, 16, false) ∷
    (codes ".", 17, 17, false) ∷ []

-- low, high and associativity of the first row with this sign
abbrev pub row_in : List Row → List ℕ → Option (ℕ × ℕ × Bool)
row_in [] sign = None
row_in (r ∷ rs) sign = if pointwise nat_eq r.0 sign then Some (r.1, r.2, r.3) else row_in rs sign

-- the operators of a fixity
abbrev pub rows_of : Fix → List Row
rows_of Prefix = prefix_rows
rows_of Infix = infix_rows
rows_of Postfix = postfix_rows

-- low, high and associativity of an operator
unfoldable pub operator : List ℕ → Fix → Option (ℕ × ℕ × Bool)
operator sign fix = row_in (rows_of fix) sign
