-- The rank of a symbol: by the number of its declaration, and then by its kind.
use Rattle.std.specs.Prelude.{ℕ, ◌+◌, ◌*◌, Bool, true, false}
use Rattle.core_expr.specs.declared.head.Sym.{Sym}
use Rattle.core_expr.specs.declared.head.SymKind.{SymKind}
use Rattle.core_expr.specs.declared.head.SymKind.TheVariants as kinds
use Rattle.core_expr.specs.Terms.{kind_code}

abbrev pub rank : Sym → ℕ
rank f = 8 * f.number + kind_code f.kind

-- the kinds of definitions' symbols
abbrev pub is_defined_kind : SymKind → Bool
is_defined_kind kinds.Defined = true
is_defined_kind kinds.DefinedPrimed = true
is_defined_kind k = false
