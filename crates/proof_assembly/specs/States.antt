-- What is known at a place of a module, and which symbols are in scope there.
use Rattle.std.specs.Prelude.{◌≡◌, ℕ, ◌+◌, ◌<◌, Bool, true, false, ◌&&◌, nat_eq, List, [], ◌∷◌, ◌++◌, take, length, Option, None}
use Rattle.tla_ast.specs.declared.place.Place.{Place}
use Rattle.tla_ast.specs.declared.tree.Decl.{Decl}
use Rattle.core_expr.specs.declared.head.Sym.{Sym}
use Rattle.core_expr.specs.declared.head.SymKind.{SymKind}
use Rattle.core_expr.specs.declared.head.SymKind.TheVariants as kinds
use Rattle.symbol_table.specs.declared.entry.Entry.{Entry}
use Rattle.symbol_table.specs.declared.entry.EntrySort.{EntrySort}
use Rattle.symbol_table.specs.declared.entry.EntrySort.TheVariants as sorts
use Rattle.symbol_table.specs.Scoped.{entry_of}
use Rattle.symbol_table.specs.Symbols.{symbol_at}
use Rattle.plain_syntax.specs.Plain.{Term}
use Rattle.module_scope.specs.Scope.{Scope}
use Rattle.module_scope.specs.Names.{Book, scope_of, entries_of, symbols_of, faults_of, has_any}
use Rattle.prime_expand.specs.Core.{flags_in}
use Rattle.prime_expand.specs.Fine.{with_decls}
use Rattle.prime_expand.specs.Laws.{SymbolsFine, Holds}
use Rattle.name_places.specs.Places.{Has, AllApart}

-- ---- states of the walk

abbrev pub IsPrefix : {A : Type 0} → List A → List A → Type 0
IsPrefix {A} xs zs = (ys : List A) × (xs ++ ys ≡ zs)

-- what holds of the number of each name in scope
abbrev pub Each : (ℕ → Type 0) → Scope → Type 0
Each Q [] = Unit {0}
Each Q (s ∷ ss) = Q s.1 × Each Q ss

-- places that differ, of which none means something yet
pub record Free (symbols : List (Place × ℕ)) (ps : List Place) : Type 0 where
  pub apart : AllApart ps
  pub unnoted : (p : Place) → Has ps p → symbol_at symbols p ≡ None

-- what is declared inside of an expression alone
abbrev pub is_bound : EntrySort → Bool
is_bound sorts.Bound = true
is_bound _ = false

-- Outside of expressions the numbers in scope are allowed: that of STRING, which is the entry 0, and those of all names. No bound name
-- is in scope there.
pub record Known (allowed : ℕ → Bool) (b : Book) : Type 0 where
  pub string : (allowed 0 ≡ true) × (0 < length (entries_of b)) × ((entry_of (entries_of b) 0).sort ≡ sorts.Library)
  pub scope : Each (λ n. (n < length (entries_of b)) × (allowed n ≡ true) × (is_bound (entry_of (entries_of b) n).sort ≡ false)) (scope_of b)

-- a state that comes after another, without a fault up to the earlier one
pub record Later (b c : Book) : Type 0 where
  pub entries : IsPrefix (entries_of b) (entries_of c)
  pub symbols : IsPrefix (symbols_of b) (symbols_of c)
  pub no_fault : faults_of b ≡ []

-- ---- symbols

-- the arguments of a definition, and one more for each that it primes
abbrev pub extended_arity : Entry → ℕ
extended_arity e = e.arity + flags_in (symbol_at []) [] (take e.arity e.primed)

-- Whether what is declared gives a symbol of a kind with k arguments. A library's name is not asked for its arity: STRING, and the
-- signs of operators, are told by their form.
abbrev pub gives : EntrySort → Entry → SymKind → ℕ → Bool
gives sorts.Constant e kinds.Constant k = nat_eq e.arity k
gives sorts.Library e kinds.Constant k = true
gives sorts.State e kinds.State k = nat_eq e.arity k
gives sorts.State e kinds.Primed k = nat_eq e.arity k
gives sorts.Definition e kinds.Defined k = nat_eq (extended_arity e) k
gives sorts.Definition e kinds.DefinedPrimed k = has_any e.level && nat_eq (extended_arity e) k
gives s e kind k = false

-- whether a symbol with k arguments is one that an entry of an allowed number gives
abbrev pub is_allowed : List Entry → (ℕ → Bool) → Sym → ℕ → Bool
is_allowed entries allowed f k = allowed f.number && nat_eq f.arity k && gives (entry_of entries f.number).sort (entry_of entries f.number) f.kind k

-- each name of a text with parameters is bound there, or means an entry of an allowed number, which fits
abbrev pub IsFine : (Place → Option ℕ) → List Entry → (ℕ → Bool) → List Decl → Term → Type 0
IsFine means entries allowed ps t = SymbolsFine (Holds (is_allowed entries allowed)) means entries (with_decls means [] ps) t
