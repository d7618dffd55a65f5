-- The names that the library modules give.
use Rattle.std.specs.Prelude.{ℕ, Bool, if◌then◌else◌, ◌&&◌, nat_eq, List, [], ◌∷◌, Option, Some, None, codes}
use Rattle.std.specs.Cmp.Lexicographic.{pointwise}
use Rattle.std.specs.List.{list_any}

-- module, name, arity
abbrev pub Row : Type 0
Row = List ℕ × List ℕ × ℕ

-- the last rows are the pragmas, which stand only as facts
unfoldable pub names : List Row
names =
    (codes "Naturals", codes "Nat", 0) ∷
    (codes "Naturals", codes "+", 2) ∷
    (codes "Naturals", codes "-", 2) ∷
    (codes "Naturals", codes "*", 2) ∷
    (codes "Naturals", codes "<", 2) ∷
    (codes "Naturals", codes ">", 2) ∷
    (codes "Naturals", codes "<=", 2) ∷
    (codes "Naturals", codes ">=", 2) ∷
    (codes "Naturals", codes "..", 2) ∷
    (codes "Integers", codes "Nat", 0) ∷
    (codes "Integers", codes "+", 2) ∷
    (codes "Integers", codes "-", 2) ∷
    (codes "Integers", codes "*", 2) ∷
    (codes "Integers", codes "<", 2) ∷
    (codes "Integers", codes ">", 2) ∷
    (codes "Integers", codes "<=", 2) ∷
    (codes "Integers", codes ">=", 2) ∷
    (codes "Integers", codes "..", 2) ∷
    (codes "Integers", codes "Int", 0) ∷
    (codes "Integers", codes "-.", 1) ∷
    (codes "Sequences", codes "Seq", 1) ∷
    (codes "Sequences", codes "Len", 1) ∷
    (codes "Sequences", codes "Append", 2) ∷
    (codes "Sequences", codes "Head", 1) ∷
    (codes "Sequences", codes "Tail", 1) ∷
    (codes "Sequences", codes "SubSeq", 3) ∷
    (codes "FiniteSets", codes "IsFiniteSet", 1) ∷
    (codes "FiniteSets", codes "Cardinality", 1) ∷
    (codes "TLAPS", codes "Zenon", 0) ∷
    (codes "TLAPS", codes "SMT", 0) ∷
    (codes "TLAPS", codes "Isa", 0) ∷
    (codes "TLAPS", codes "Z3", 0) ∷
    (codes "TLAPS", codes "PTL", 0) ∷ []

-- whether one of these rows is of this module
abbrev pub has_row : List Row → List ℕ → Bool
has_row rows owner = list_any (λ r. pointwise nat_eq r.0 owner) rows

-- whether a library module has this name
unfoldable pub is_library : List ℕ → Bool
is_library owner = has_row names owner

-- the arity in the first row with this module and this name
abbrev pub arity_in : List Row → List ℕ → List ℕ → Option ℕ
arity_in [] owner name = None
arity_in (r ∷ rs) owner name = if pointwise nat_eq r.0 owner && pointwise nat_eq r.1 name then Some r.2 else arity_in rs owner name

-- the arity of a name that a library module gives
unfoldable pub library : List ℕ → List ℕ → Option ℕ
library owner name = arity_in names owner name
