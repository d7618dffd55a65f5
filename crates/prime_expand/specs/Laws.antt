-- What is proved of cores. Each statement is the contract of a function of src/laws.rt.
use Rattle.std.specs.Prelude.{◌≡◌, ℕ, ◌+◌, Bool, IsTrue, List, [], Option, length, take}
use Rattle.tla_ast.specs.declared.place.Place.{Place}
use Rattle.tla_ast.specs.declared.tree.Decl.{Decl}
use Rattle.core_expr.specs.declared.head.Sym.{Sym}
use Rattle.core_expr.specs.declared.head.SymKind.{SymKind}
use Rattle.core_expr.specs.declared.head.SymKind.TheVariants as sym
use Rattle.core_expr.specs.Tree.{Tree, Parts, size}
use Rattle.core_expr.specs.Tree.Tree.{bound, app, node, bind}
use Rattle.core_expr.specs.Tree.Parts.{end, part}
use Rattle.core_expr.specs.Put.{IsScoped}
use Rattle.symbol_table.specs.declared.entry.Entry.{Entry}
use Rattle.symbol_table.specs.declared.entry.EntrySort.{EntrySort}
use Rattle.symbol_table.specs.declared.entry.EntrySort.TheVariants as sorts
use Rattle.symbol_table.specs.Scoped.{entry_of}
use Rattle.plain_syntax.specs.Plain.{Term}
use Rattle.prime_expand.specs.declared.both.Both.{Both}
use Rattle.prime_expand.specs.Symbols.{second_kind}
use Rattle.prime_expand.specs.Core.{core_of, bodies, flags_in}
use Rattle.prime_expand.specs.Fine.{Fine, with_decls}

-- ---- symbols

-- P holds of each symbol, with its number of arguments
abbrev mutual
  pub Only : (Sym → ℕ → Type 0) → Tree → Type 0
  Only P (bound i) = Unit {0}
  Only P (app f ps) = P f (size ps) × AllOnly P ps
  Only P (node h ns ps) = AllOnly P ps
  Only P (bind b ps e) = AllOnly P ps × Only P e

  pub AllOnly : (Sym → ℕ → Type 0) → Parts → Type 0
  AllOnly P end = Unit {0}
  AllOnly P (part e ps) = Only P e × AllOnly P ps

-- of the symbol of a kind, with k arguments
abbrev pub OfKind : (Sym → ℕ → Type 0) → SymKind → ℕ → ℕ → Type 0
OfKind P s n k = P (record { kind = s; number = n; arity = k }) k

module _ (P : Sym → ℕ → Type 0) (means : Place → Option ℕ) (entries : List Entry) where
  -- P holds of the symbols that the entry of a number gives with k arguments
  abbrev pub OfSort : EntrySort → Entry → ℕ → ℕ → Type 0
  OfSort sorts.State e n k = OfKind P sym.State n k × OfKind P sym.Primed n k
  OfSort sorts.Definition e n k =
      OfKind P sym.Defined n (k + flags_in means entries (take k e.primed))
      × OfKind P (second_kind e.level) n (k + flags_in means entries (take k e.primed))
  OfSort s e n k = OfKind P sym.Constant n k

  abbrev pub OfEntry : ℕ → ℕ → Type 0
  OfEntry n k = OfSort (entry_of entries n).sort (entry_of entries n) n k

-- what each name and each sign is asked for: that P holds of the symbols that it gives
abbrev pub SymbolsFine : (Sym → ℕ → Type 0) → (Place → Option ℕ) → List Entry → List ℕ → Term → Type 0
SymbolsFine P means entries = Fine means (OfEntry P means entries) (OfKind P sym.Constant)

-- both halves have no loose variable from n on, and P holds of their symbols
pub record IsOver (P : Sym → ℕ → Type 0) (n : ℕ) (b : Both) : Type 0 where
  pub plain_scoped : IsScoped n b.plain
  pub plain_only : Only P b.plain
  pub primed_scoped : IsScoped n b.primed
  pub primed_only : Only P b.primed

abbrev pub Holds : (Sym → ℕ → Bool) → Sym → ℕ → Type 0
Holds test f k = IsTrue (test f k)

-- The core of an expression is closed. What holds of the symbols of the entries that its names mean, where they are not bound in it,
-- holds of all its symbols.
abbrev pub CoreIsClosed : Type 0
CoreIsClosed =
    (test : Sym → ℕ → Bool) (means : Place → Option ℕ) (entries : List Entry) (t : Term) → SymbolsFine (Holds test) means entries [] t
    → IsOver (Holds test) 0 (core_of means entries t)

-- in the bodies of a definition the loose variables are its parameters, and one more for each parameter that it primes
abbrev pub BodiesAreScoped : Type 0
BodiesAreScoped =
    (test : Sym → ℕ → Bool) (means : Place → Option ℕ) (entries : List Entry) (e : Entry) (ds : List Decl) (t : Term) → length e.primed ≡ length ds
    → SymbolsFine (Holds test) means entries (with_decls means [] ds) t
    → IsOver (Holds test) (length ds + flags_in means entries e.primed) (bodies means entries e ds t)

-- ---- primes

-- no variable, and no definition of a level above 0
abbrev pub HasConstantSort : EntrySort → Entry → Type 0
HasConstantSort sorts.State e = ⊥
HasConstantSort sorts.Definition e = e.level ≡ 0
HasConstantSort s e = Unit {0}

abbrev pub IsConstant : List Entry → ℕ → ℕ → Type 0
IsConstant entries n k = HasConstantSort (entry_of entries n).sort (entry_of entries n)

-- an expression without names of variables, and of definitions of a level above 0, is its own prime
abbrev pub ConstantIsItsPrime : Type 0
ConstantIsItsPrime =
    (means : Place → Option ℕ) (entries : List Entry) (t : Term) → Fine means (IsConstant entries) (λ n k. Unit {0}) [] t
    → (core_of means entries t).plain ≡ (core_of means entries t).primed
