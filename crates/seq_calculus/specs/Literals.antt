-- Which nodes are literals.
use Rattle.std.specs.Prelude.{Bool, true, false}
use Rattle.core_expr.specs.declared.head.Head.TheVariants.{Num, Str}
use Rattle.core_expr.specs.declared.row.RowKind.{RowKind}
use Rattle.core_expr.specs.declared.row.RowKind.TheVariants.{Plain}

-- a number or a string
abbrev pub is_literal : RowKind → Bool
is_literal (Plain Num) = true
is_literal (Plain Str) = true
is_literal _ = false
