-- Small texts with their cores.
use Rattle.std.specs.Prelude.{◌≡◌, ℕ, Bool, true, false, List, [], ◌∷◌, codes}
use Rattle.std.proofs.Common.{refl}
use Rattle.tla_ast.specs.declared.place.Place.{Place}
use Rattle.tla_ast.specs.declared.tree.Decl.{Decl}
use Rattle.core_expr.specs.declared.head.SymKind.TheVariants as sym
use Rattle.core_expr.specs.Tree.{Tree, eq_, apply_, except_, in_, imp_, and_, all_, ex_}
use Rattle.core_expr.specs.Tree.Tree.{bound}
use Rattle.symbol_table.specs.declared.entry.Entry.{Entry}
use Rattle.symbol_table.specs.declared.entry.EntrySort.{EntrySort}
use Rattle.symbol_table.specs.declared.entry.EntrySort.TheVariants as sorts
use Rattle.symbol_table.specs.Scoped.{Table, symbol}
use Rattle.plain_syntax.specs.Plain.{Text, Term}
use Rattle.plain_syntax.specs.Plain.Term.{term}
use Rattle.plain_syntax.specs.Plain.Terms.{none, part}
use Rattle.plain_syntax.specs.Plain.Shape.{name, call, infixed, prime, except, quantifier, local, at}
use Rattle.plain_syntax.specs.Plain.Updates.{end_updates, update}
use Rattle.plain_syntax.specs.Plain.Keys.{end_keys, key}
use Rattle.plain_syntax.specs.Plain.Groups.{end_groups, within}
use Rattle.plain_syntax.specs.Plain.Defs.{end_defs, def}
use Rattle.prime_expand.specs.Symbols.{applied}
use Rattle.prime_expand.specs.Core.{core_of, core_in, bodies}

abbrev here : ℕ → ℕ → Place
here l c = record { line = l; column = c }

abbrev entry : Text → EntrySort → ℕ → ℕ → List Bool → Entry
entry w s n l bs = record { name = w; sort = s; arity = n; level = l; primed = bs }

abbrev decl : Text → Place → Decl
decl w p = record { name = w; arity = 0; place = p }

-- VARIABLES a, y   CONSTANTS c   D(x) == x' = y
abbrev declared : List Entry
declared =
    entry (codes "a") sorts.State 0 1 [] ∷ entry (codes "y") sorts.State 0 1 [] ∷ entry (codes "c") sorts.Constant 0 0 []
    ∷ entry (codes "x") sorts.Bound 0 0 [] ∷ entry (codes "D") sorts.Definition 1 2 (true ∷ []) ∷ entry (codes "F") sorts.Definition 1 1 (true ∷ []) ∷ []

-- a name at the column 10 n means the entry n
abbrev table : Table
table = record {
  entries = declared;
  symbols = ((here 1 0, 0) ∷ (here 1 10, 1) ∷ (here 1 20, 2) ∷ (here 1 30, 3) ∷ (here 1 40, 4) ∷ (here 1 50, 5) ∷ []) ∷ [];
}

abbrev word : Text → ℕ → Term
word w n = term (name w) none (here 1 n)

abbrev a_ : Term
a_ = word (codes "a") 0

abbrev y_ : Term
y_ = word (codes "y") 10

abbrev c_ : Term
c_ = word (codes "c") 20

abbrev x_ : Term
x_ = word (codes "x") 30

abbrev prime_ : Term → Term
prime_ t = term prime (part t none) (here 2 1)

abbrev equal_ : Term → Term → Term
equal_ s t = term (infixed (codes "=")) (part s (part t none)) (here 2 2)

abbrev state : ℕ → Tree
state n = applied sym.State n []

abbrev next : ℕ → Tree
next n = applied sym.Primed n []

abbrev constant_ : ℕ → Tree
constant_ n = applied sym.Constant n []

-- D(a): the parameter that D primes takes a' as a further argument, and D' takes primed arguments
applies-definition : core_of (symbol table 0) declared (term (call (codes "D")) (part a_ none) (here 1 40))
    ≡ record { plain = applied sym.Defined 4 (state 0 ∷ next 0 ∷ []); primed = applied sym.DefinedPrimed 4 (next 0 ∷ next 0 ∷ []) }
unfolding core_of
applies-definition = refl

-- the bodies of D: in the second the parameter stands for the further argument
bodies-of-definition : bodies (symbol table 0) declared (entry (codes "D") sorts.Definition 1 2 (true ∷ [])) (decl (codes "x") (here 1 30) ∷ []) (equal_ (prime_ x_) y_)
    ≡ record { plain = eq_ (bound 0) (state 1); primed = eq_ (bound 0) (next 1) }
unfolding bodies
bodies-of-definition = refl

-- [a EXCEPT ![c][y] = @]: `@` is the value at the path so far
value-at-path : core_in table 0 false (term (except (update (key c_ (key y_ end_keys)) (term at none (here 2 3)) end_updates)) (part a_ none) (here 2 4))
    ≡ except_ (state 0) (constant_ 2) (except_ (apply_ (state 0) (constant_ 2)) (state 1) (apply_ (apply_ (state 0) (constant_ 2)) (state 1)))
unfolding core_of
value-at-path = refl

-- \A x \in x : x = c with x for a bound name: the set of a group does not see its names
sets-see-no-names : core_in table 0 false (term (quantifier true (within (decl (codes "x") (here 1 30) ∷ []) a_ end_groups)) (part (equal_ x_ c_) none) (here 2 5))
    ≡ all_ (imp_ (in_ (bound 0) (state 0)) (eq_ (bound 0) (constant_ 2)))
unfolding core_of
sets-see-no-names = refl

-- LET F(x) == x' = x IN \E y \in c : F(y), where y is bound: the prime changes no bound name
let-under-binder : core_in table 0 true
    (term (local (def (codes "F") (decl (codes "x") (here 1 30) ∷ []) (equal_ (prime_ x_) x_) (here 1 50) end_defs))
    (part (term (quantifier false (within (decl (codes "y") (here 1 10) ∷ []) c_ end_groups)) (part (term (call (codes "F")) (part y_ none) (here 1 50)) none) (here 2 6)) none) (here 2 7))
    ≡ ex_ (and_ (in_ (bound 0) (constant_ 2)) (eq_ (bound 0) (bound 0)))
unfolding core_of
let-under-binder = refl
