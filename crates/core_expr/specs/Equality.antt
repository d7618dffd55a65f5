-- Equality of expressions and canonical forms as tests, and what their hashes are made of.
use Rattle.std.specs.Prelude.{ℕ, Bool, ◌&&◌, List, ◌++◌}
use Rattle.std.specs.List.{flat_map}
use Rattle.std.specs.Hash.{u64, slice}
use Rattle.std.specs.Cmp.Lexicographic.{pointwise}
use Rattle.core_expr.specs.declared.row.Row.{Row}
use Rattle.core_expr.specs.declared.row.RowKind.{RowKind}
use Rattle.core_expr.specs.declared.row.RowKind.TheVariants.{Symbol}
use Rattle.core_expr.specs.declared.canon.Canon.{Canon}
use Rattle.core_expr.specs.Tree.{Tree}
use Rattle.core_expr.specs.Terms.{same}
use Rattle.core_expr.specs.Heads.{kind_number}
use Rattle.core_expr.specs.Flat.{rows_of}

-- the number of a node's symbol, 0 for the others
abbrev pub symbol_number : RowKind → ℕ
symbol_number (Symbol f) = f.number
symbol_number k = 0

-- what a node feeds a hasher: its head number, its symbol's number and its numbers
abbrev pub row_fed : Row → List (List ℕ)
row_fed r = u64 (kind_number r.kind) ++ (u64 (symbol_number r.kind) ++ slice u64 r.numbers)

-- what an expression feeds a hasher: each of its nodes
abbrev pub tree_fed : Tree → List (List ℕ)
tree_fed t = flat_map row_fed (rows_of t)

-- the same facts in the same order, and the same goal
abbrev pub same_canon : Canon → Canon → Bool
same_canon a b = pointwise same a.facts b.facts && same a.goal b.goal

-- what a canonical form feeds a hasher: its facts, and its goal
abbrev pub canon_fed : Canon → List (List ℕ)
canon_fed c = slice tree_fed c.facts ++ tree_fed c.goal
