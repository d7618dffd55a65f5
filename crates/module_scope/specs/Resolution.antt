-- The names of all modules.
use Rattle.std.specs.Prelude.{ℕ, suc, Bool, true, false, not, ◌&&◌, ◌||◌, nat_eq, nat_lt, if◌then◌else◌, fold, List, [], ◌∷◌, ◌++◌, map, Option, Some, None, Result, Ok, Err, codes}
use Rattle.std.specs.Cmp.Lexicographic.{slice_cmp}
use Rattle.std.specs.Option.{is_some}
use Rattle.std.specs.Ordering.{is_lt, nat_cmp}
use Rattle.std_names.specs.Libraries as libraries
use Rattle.tla_ast.specs.declared.place.Place.{Place}
use Rattle.tla_ast.specs.Place.{before}
use Rattle.tla_ast.specs.Fault.{rank}
use Rattle.tla_ast.specs.declared.fault.Kind.{Kind}
use Rattle.tla_ast.specs.declared.fault.Kind.TheVariants as kind
use Rattle.tla_ast.specs.declared.fault.ScopeFault.{ScopeFault}
use Rattle.tla_ast.specs.declared.fault.ScopeFault.TheVariants as fault
use Rattle.plain_syntax.specs.Plain.{Text, Module}
use Rattle.symbol_table.specs.declared.entry.Entry.{Entry}
use Rattle.symbol_table.specs.declared.entry.EntrySort.{EntrySort}
use Rattle.symbol_table.specs.declared.entry.EntrySort.TheVariants as sorts
use Rattle.symbol_table.specs.Scoped.{Table}
use Rattle.expression_level.specs.Levels.{is_word, undeclared}
use Rattle.module_scope.specs.Scope.{Scope, found}
use Rattle.module_scope.specs.Names.{Book, Walk, each, refused, unit, scope_of, symbols_of, entries_of, faults_of}
use Rattle.module_scope.specs.Names.Book.{book}

-- ---- libraries

-- the rows of the libraries' names, each name once
abbrev pub is_row_of : Text → List libraries.Row → Bool
is_row_of w [] = false
is_row_of w (r ∷ rs) = is_word r.1 w || is_row_of w rs

abbrev pub distinct : List libraries.Row → List libraries.Row → List libraries.Row
distinct seen [] = []
distinct seen (r ∷ rs) = elim (is_row_of r.1 seen) [ true ↦ distinct seen rs | false ↦ r ∷ distinct (r ∷ seen) rs ]

-- the names of TLAPS are facts that add nothing
abbrev pub library_sort : Text → EntrySort
library_sort owner = if is_word owner (codes "TLAPS") then sorts.Pragma else sorts.Library

abbrev pub library_entry : libraries.Row → Entry
library_entry r = record { name = r.1; sort = library_sort r.0; arity = r.2; level = 0; primed = [] }

-- STRING, and then the names of the libraries: a name is one symbol, whichever library gives it
unfoldable pub library_entries : List Entry
library_entries =
    record { name = codes "STRING"; sort = sorts.Library; arity = 0; level = 0; primed = [] } ∷ map library_entry (distinct [] libraries.names)

-- the names of these entries that a library gives, with their numbers
abbrev pub given : ℕ → Text → List Entry → Scope
given n w [] = []
given n w (e ∷ es) = elim (is_some (libraries.library w e.name)) [ true ↦ (e.name, n) ∷ given (suc n) w es | false ↦ given (suc n) w es ]

unfoldable pub library_scope : Text → Scope
library_scope w = given 0 w library_entries

-- ---- EXTENDS

-- the names that each earlier module gives, its own and those that it extends
abbrev pub Exports : Type 0
Exports = List (Text × Scope)

abbrev pub exported : Exports → Text → Scope
exported [] w = []
exported (e ∷ es) w = if is_word e.0 w then e.1 else exported es w

abbrev pub brought : Exports → Text → Scope
brought es w = if libraries.is_library w then library_scope w else exported es w

-- a name that has another declaration already
abbrev pub clashes : Option ℕ → ℕ → Bool
clashes None n = false
clashes (Some m) n = not (nat_eq m n)

-- byte order
abbrev pub precedes : Text → Text → Bool
precedes w v = is_lt (slice_cmp nat_cmp w v)

abbrev pub lesser : Text → Option Text → Option Text
lesser w None = Some w
lesser w (Some v) = if precedes w v then Some w else Some v

abbrev pub clash_step : Scope → Option Text → Text × ℕ → Option Text
clash_step scope least e = if clashes (found e.0 scope) e.1 then lesser e.0 least else least

-- the least name in byte order that has another declaration already
abbrev pub first_clash : Scope → Scope → Option Text
first_clash scope es = fold (clash_step scope) None es

abbrev pub told : Option Text → Place → Walk
told None p b = b
told (Some w) p b = refused (kind.Redeclared w) p b

-- the names that are not in scope yet
abbrev pub unknown : Scope → Scope → Scope
unknown scope [] = []
unknown scope (e ∷ es) = elim (is_some (found e.0 scope)) [ true ↦ unknown scope es | false ↦ e ∷ unknown scope es ]

abbrev pub bring : Scope → Place → Walk
bring new_ p (book ss es ls ys fs) = told (first_clash ss new_) p (book (ss ++ unknown ss new_) es ls ys fs)

unfoldable pub extend : Exports → Text × Place → Walk
extend es e = bring (brought es e.0) e.1

-- ---- modules

-- the fault of the least place, of several at one place the first in the order of kinds
abbrev pub comes_before : Place × Kind → Place × Kind → Bool
comes_before f g = before f.0 g.0 || (not (before g.0 f.0) && nat_lt (rank f.1) (rank g.1))

abbrev pub sooner : Option (Place × Kind) → Place × Kind → Option (Place × Kind)
sooner None f = Some f
sooner (Some g) f = if comes_before f g then Some f else Some g

abbrev pub least : List (Place × Kind) → Option (Place × Kind)
least fs = fold sooner None fs

-- the state before a module
abbrev pub emptied : Walk
emptied (book ss es ls ys fs) = book [] es ls [] []

unfoldable pub module_names : Exports → Module → Walk
module_names es m b = each unit m.units (each (extend es) m.extends (emptied b))

abbrev pub start : Book
start = book [] library_entries undeclared [] []

abbrev pub after_module : Text → Book → Option (Place × Kind) → (Book → Result Table ScopeFault) → Result Table ScopeFault
after_module w b None more = more b
after_module w b (Some f) more = Err (fault.At w f.0 f.1)

abbrev pub resolved : Exports → List (List (Place × ℕ)) → List Module → Book → Result Table ScopeFault
resolved es ss [] b = Ok (record { entries = entries_of b; symbols = ss })
resolved es ss (m ∷ ms) b =
    let c = module_names es m b in
    after_module m.name c (least (faults_of c)) (resolved (es ++ (m.name, scope_of c) ∷ []) (ss ++ symbols_of c ∷ []) ms)

-- what each name of the modules means, or the first fault
unfoldable pub resolution : List Module → Result Table ScopeFault
resolution ms = resolved [] [] ms start
