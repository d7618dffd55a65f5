-- A definition and its name from then on.
use Rattle.std.proofs.Common.{◌≡◌, ℕ, Bool, List, [], ◌∷◌, ◌++◌, length, ap, ◌∙◌}
use Rattle.tla_ast.specs.declared.place.Place.{Place}
use Rattle.tla_ast.specs.declared.fault.Kind.{Kind}
use Rattle.tla_ast.specs.declared.tree.Decl.{Decl}
use Rattle.plain_syntax.specs.Plain.{Text, Term}
use Rattle.symbol_table.specs.declared.entry.Entry.{Entry}
use Rattle.symbol_table.specs.declared.entry.EntrySort.TheVariants as sorts
use Rattle.symbol_table.specs.Symbols.{symbol_at, noted}
use Rattle.expression_level.specs.Levels.{Levels, bound, definition_level}
use Rattle.expression_level.specs.Primed.{primed_parameters}
use Rattle.expression_level.specs.Store.{flags_of}
use Rattle.module_scope.specs.Scope.{Scope}
use Rattle.module_scope.specs.Names.{defined}
use Rattle.module_scope.specs.Names.Book.{book}

pub defined-is : (ss ss2 : Scope) (es es2 : List Entry) (ls ls2 : Levels) (ys ys2 : List (Place × ℕ)) (fs : List (Place × Kind)) (w v : Text) (ds : List Decl) (t : Term) (p : Place) (n a l : ℕ) (flags : List Bool)
    → n ≡ length es → v ≡ w → a ≡ length ds → flags ≡ primed_parameters (symbol_at ys) (flags_of es) ds t → l ≡ (definition_level (symbol_at ys) ls ds t []).0
    → ls2 ≡ bound n (definition_level (symbol_at ys) ls ds t) ls → es2 ≡ es ++ record { name = v; sort = sorts.Definition; arity = a; level = l; primed = flags } ∷ [] → ss2 ≡ ss ++ (w, n) ∷ [] → ys2 ≡ noted p n ys
    → book ss2 es2 ls2 ys2 fs ≡ defined w ds t p (book ss es ls ys fs)
defined-is ss ss2 es es2 ls ls2 ys ys2 fs w v ds t p n a l flags number text arity primed level levels entries scope symbols =
    let s : ss2 ≡ ss ++ (w, length es) ∷ [] = scope ∙ ap (λ k. ss ++ (w, k) ∷ []) number in
    let e : es2 ≡ es ++ record { name = w; sort = sorts.Definition; arity = length ds; level = (definition_level (symbol_at ys) ls ds t []).0; primed = primed_parameters (symbol_at ys) (flags_of es) ds t } ∷ [] =
    entries ∙ (λ i. es ++ record { name = text i; sort = sorts.Definition; arity = arity i; level = level i; primed = primed i } ∷ []) in
    let k : ls2 ≡ bound (length es) (definition_level (symbol_at ys) ls ds t) ls = levels ∙ ap (λ m. bound m (definition_level (symbol_at ys) ls ds t) ls) number in
    let y : ys2 ≡ noted p (length es) ys = symbols ∙ ap (λ m. noted p m ys) number in λ i. book (s i) (e i) (k i) (y i) fs
