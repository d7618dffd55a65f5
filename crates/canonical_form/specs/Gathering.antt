-- Symbols gathered by a walk over an expression that keeps a list of nodes to visit.
use Rattle.std.specs.Prelude.{ℕ, ◌<◌, List, [], ◌∷◌, map, reverse, length}
use Rattle.core_expr.specs.declared.head.Sym.{Sym}
use Rattle.core_expr.specs.declared.row.RowKind.{RowKind}
use Rattle.core_expr.specs.declared.row.RowKind.TheVariants.{Bound, Symbol, Plain, Binding}
use Rattle.core_expr.specs.Tree.{Tree}
use Rattle.core_expr.specs.Flat.{rows_of}
use Rattle.core_expr.specs.Places.{subtree}
use Rattle.proof_contexts.specs.Canonical.{with_symbol}

-- the symbols once a node of this kind is met
abbrev pub met : RowKind → List Sym → List Sym
met (Symbol f) xs = with_symbol f xs
met Bound xs = xs
met (Plain h) xs = xs
met (Binding b) xs = xs

-- the subtrees at the places to visit, the next first
abbrev pub waiting : Tree → List ℕ → List Tree
waiting t places = map (subtree t) (reverse places)

-- the places are those of nodes
abbrev pub AreNodes : Tree → List ℕ → Type 0
AreNodes t [] = Unit {0}
AreNodes t (i ∷ is) = (i < length (rows_of t)) × AreNodes t is
