-- The nodes that are a symbol's.
use Rattle.std.specs.Prelude.{Bool, false}
use Rattle.std.specs.List.{list_any}
use Rattle.core_expr.specs.declared.head.Sym.{Sym}
use Rattle.core_expr.specs.declared.row.Row.{Row}
use Rattle.core_expr.specs.declared.row.RowKind.{RowKind}
use Rattle.core_expr.specs.declared.row.RowKind.TheVariants.{Symbol}
use Rattle.core_expr.specs.Tree.{Tree}
use Rattle.core_expr.specs.Flat.{rows_of}
use Rattle.core_expr.specs.Terms.{same_sym}

abbrev pub is_symbol : Sym → RowKind → Bool
is_symbol s (Symbol f) = same_sym s f
is_symbol s k = false

abbrev pub is_node_of : Sym → Row → Bool
is_node_of s r = is_symbol s r.kind

-- the symbol stands in the expression
abbrev pub mentions : Sym → Tree → Bool
mentions s t = list_any (is_node_of s) (rows_of t)
