-- What names mean where a part of a module stands.
use Rattle.std.specs.Prelude.{ℕ, List, Option, None}
use Rattle.tla_ast.specs.declared.place.Place.{Place}
use Rattle.symbol_table.specs.declared.entry.Entry.{Entry}
use Rattle.symbol_table.specs.Scoped.{symbol}
use Rattle.theorem_leaves.specs.declared.home.Home.{Home}

-- the number that a name at a place of the module means
abbrev pub means : Home → Place → Option ℕ
means h = symbol h.scoped.now h.module

-- all that is declared, by number
abbrev pub entries : Home → List Entry
entries h = h.scoped.now.entries

-- what step names mean where none is cited
abbrev pub no_steps : Place → Option ℕ
no_steps p = None
