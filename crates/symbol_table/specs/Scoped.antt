-- The answer of name resolution: what is declared, and what the names of each module mean.
use Rattle.std.specs.Prelude.{ℕ, List, [], Option, get_or}
use Rattle.tla_ast.specs.declared.place.Place.{Place}
use Rattle.symbol_table.specs.declared.entry.Entry.{Entry}
use Rattle.symbol_table.specs.declared.entry.EntrySort.TheVariants as sorts
use Rattle.symbol_table.specs.Symbols.{symbol_at}

-- all that was declared, by number, and for each module what each name means
pub record Table : Type 0 where
  pub entries : List Entry
  pub symbols : List (List (Place × ℕ))

-- what stands for an entry past the last
abbrev pub unlisted : Entry
unlisted = record { name = []; sort = sorts.Bound; arity = 0; level = 0; primed = [] }

-- the entry of a number
abbrev pub entry_of : List Entry → ℕ → Entry
entry_of es n = get_or es n unlisted

-- the number that the name at a place of a module means; a module past the last has no names
abbrev pub symbol : Table → ℕ → Place → Option ℕ
symbol t m p = symbol_at (get_or t.symbols m []) p
