-- An index from symbols to the places of their pairs.
use Rattle.std.specs.Prelude.{◌≡◌, ℕ, Bool, Option, Some, None, List, slice_get}
use Rattle.std.specs.HashMap.{HashMap, get}
use Rattle.core_expr.specs.declared.head.Sym.{Sym}
use Rattle.core_expr.specs.contracts.head.SymPartialEq.TheImpl.{eq-value}
use Rattle.core_expr.specs.Tree.{Tree}
use Rattle.core_expr.specs.Rename.{named}

-- the test of keys
abbrev pub sym_eq : Sym → Sym → Bool
sym_eq = eq-value.it

-- the expression of a pair, if there is one
abbrev pub second : Option (Sym × Tree) → Option Tree
second None = None
second (Some p) = Some p.1

-- the expression of the pair at the place, if there is one
abbrev pub named_at : List (Sym × Tree) → Option ℕ → Option Tree
named_at by None = None
named_at by (Some i) = second (slice_get by i)

-- for each symbol the index has the place of the first of these pairs with it
abbrev pub Indexes : {H : Type 0} → List (Sym × Tree) → List (Sym × Tree) → HashMap Sym ℕ H → Type 0
Indexes by bs places = (f : Sym) → named_at by (get sym_eq places f) ≡ named bs f
