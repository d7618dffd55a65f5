-- The keys of all theorems, as they are gathered.
use Rattle.std.specs.Prelude.{ℕ, suc, nat_eq, List, [], ◌∷◌}
use Rattle.indexmap.specs.IndexSet.{insert_key}
use Rattle.plain_syntax.specs.Plain.{Unit, UnitKind as u, Module}
use Rattle.symbol_table.specs.Scoped.{Table, symbol}
use Rattle.usable_facts.specs.Keys.{theorem_key}
use Rattle.usable_facts.specs.Definitions.{Means}
use Rattle.usable_facts.specs.Theorems.{number_of}
use Rattle.theorem_leaves.specs.declared.keys.Keys.{Keys}

-- the keys so far, and how many theorems these are
pub record Kept : Type 0 where
  pub found : List ℕ
  pub before : ℕ

abbrev pub kept_of : Keys → Kept
kept_of k = record { found = k.found.keys; before = k.before }

abbrev pub keep_unit : Means → u → Kept → Kept
keep_unit means (u.theorem w s own) k = record { found = insert_key nat_eq k.found (theorem_key k.before (number_of means w)); before = suc k.before }
keep_unit means _ k = k

abbrev pub keep_units : Means → List Unit → Kept → Kept
keep_units means [] k = k
keep_units means (x ∷ xs) k = keep_units means xs (keep_unit means x.kind k)

-- those of modules, of which the first has the number m
abbrev pub keep_modules : Table → ℕ → List Module → Kept → Kept
keep_modules t m [] k = k
keep_modules t m (x ∷ xs) k = keep_modules t (suc m) xs (keep_units (symbol t m) x.units k)
