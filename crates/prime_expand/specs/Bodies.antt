-- The symbol of a definition, and its body.
use Rattle.std.specs.Prelude.{ℕ, ◌+◌, Bool, length, Option, Some, None}
use Rattle.tla_ast.specs.declared.tree.Def.{Def, out-Def}
use Rattle.core_expr.specs.declared.head.Sym.{Sym}
use Rattle.core_expr.specs.Tree.{Tree}
use Rattle.symbol_table.specs.declared.entry.Entry.{Entry}
use Rattle.symbol_table.specs.Scoped.{Table, entry_of, symbol}
use Rattle.plain_syntax.specs.Syntax.{term_of}
use Rattle.prime_expand.specs.Core.{bodies, flags_in, half, kind_of}

-- the number that a name means; 0 where the text was not resolved
abbrev pub number_of : Option ℕ → ℕ
number_of None = 0
number_of (Some n) = n

-- the number of a definition of a module
abbrev pub defined_number : Table → ℕ → Def → ℕ
defined_number t m d = number_of (symbol t m (out-Def d).place)

abbrev pub defined_entry : Table → ℕ → Def → Entry
defined_entry t m d = entry_of t.entries (defined_number t m d)

-- as many arguments as there are parameters and primed ones
abbrev pub symbol_in : Table → ℕ → Bool → Def → Sym
symbol_in t m primed d =
    let e = defined_entry t m d in
    record { kind = kind_of (symbol t m) t.entries e primed; number = defined_number t m d; arity = length (out-Def d).params + flags_in (symbol t m) t.entries e.primed }

abbrev pub body_in : Table → ℕ → Bool → Def → Tree
body_in t m primed d = half primed (bodies (symbol t m) t.entries (defined_entry t m d) (out-Def d).params (term_of (out-Def d).body))
