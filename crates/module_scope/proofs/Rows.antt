-- Modules, with the table or the fault that each gives.
use Rattle.std.specs.Prelude.{◌≡◌, ℕ, Bool, true, false, List, [], ◌∷◌, map, drop, Some, None, Result, Ok, Err, codes}
use Rattle.std.proofs.Common.{refl}
use Rattle.std_names.specs.Libraries as libraries
use Rattle.tla_ast.specs.declared.place.Place.{Place}
use Rattle.tla_ast.specs.Place.{before}
use Rattle.tla_ast.specs.declared.fault.Kind.TheVariants as kind
use Rattle.tla_ast.specs.declared.fault.ScopeFault.{ScopeFault}
use Rattle.tla_ast.specs.declared.fault.ScopeFault.TheVariants as fault
use Rattle.tla_ast.specs.declared.tree.Decl.{Decl}
use Rattle.plain_syntax.specs.Plain.{Text, Term, Item, Statement, Unit, Module, UnitKind as u}
use Rattle.plain_syntax.specs.Plain.Term.{term}
use Rattle.plain_syntax.specs.Plain.Terms.{none, part}
use Rattle.plain_syntax.specs.Plain.Shape.{name, call, number, infixed, prime, quantifier}
use Rattle.plain_syntax.specs.Plain.Groups.{end_groups, free}
use Rattle.plain_syntax.specs.Plain.Defs.{end_defs, def}
use Rattle.plain_syntax.specs.Plain.Item.{given}
use Rattle.plain_syntax.specs.Plain.Proof.{obvious, by_facts}
use Rattle.symbol_table.specs.declared.entry.Entry.{Entry}
use Rattle.symbol_table.specs.declared.entry.EntrySort.{EntrySort}
use Rattle.symbol_table.specs.declared.entry.EntrySort.TheVariants as sorts
use Rattle.symbol_table.specs.Scoped.{Table}
use Rattle.module_scope.specs.Names.{judged, alone, define, stated, chosen, cited, facts, assumed, assumption, theorem, unit as unit_walk}
use Rattle.module_scope.specs.Resolution.{resolution, library_entries, library_scope, module_names, extend}

abbrev at : ℕ → ℕ → Place
at l c = record { line = l; column = c }

abbrev decl : Text → ℕ → Place → Decl
decl w n p = record { name = w; arity = n; place = p }

abbrev statement : List Item → Term → Statement
statement is g = record { items = is; goal = g }

abbrev unit : Place → u → Unit
unit p k = record { place = p; kind = k }

abbrev module_of : Text → Place → List (Text × Place) → List Unit → Module
module_of w p es us = record { name = w; header = p; extends = es; units = us }

abbrev entry : Text → EntrySort → ℕ → ℕ → List Bool → Entry
entry w s n l bs = record { name = w; sort = s; arity = n; level = l; primed = bs }

-- the symbols of a module by their places
abbrev put : Place × ℕ → List (Place × ℕ) → List (Place × ℕ)
put x [] = x ∷ []
put x (y ∷ ys) = elim (before x.0 y.0) [ true ↦ x ∷ y ∷ ys | false ↦ y ∷ put x ys ]

abbrev sorted : List (Place × ℕ) → List (Place × ℕ)
sorted [] = []
sorted (x ∷ xs) = put x (sorted xs)

-- what is declared behind the libraries' names, and the symbols of each module
abbrev shown : Result Table ScopeFault → Result (List Entry × List (List (Place × ℕ))) ScopeFault
shown (Ok t) = Ok (drop 25 t.entries, map sorted t.symbols)
shown (Err e) = Err e

-- x'' = x with a variable x
two_primes : resolution ((module_of (codes "M") (at 1 1) [] ((unit (at 2 1) (u.variables ((decl (codes "x") 0 (at 2 10)) ∷ []))) ∷ (unit (at 3 1) (u.theorem None (statement [] (term (infixed (codes "=")) (part (term prime (part (term prime (part (term (name (codes "x")) none (at 3 9)) none) (at 3 10)) none) (at 3 11)) (part (term (name (codes "x")) none (at 3 15)) none)) (at 3 13))) (obvious (at 3 17)))) ∷ [])) ∷ []) ≡ Err (fault.At (codes "M") (at 3 11) kind.Level)
unfolding resolution library_entries library_scope libraries.names libraries.library libraries.is_library module_names extend unit_walk theorem assumption assumed define alone judged stated chosen cited facts
two_primes = refl

-- \A a : .. with a constant a
bound_again : resolution ((module_of (codes "M") (at 1 1) [] ((unit (at 2 1) (u.constants ((decl (codes "a") 0 (at 2 10)) ∷ []))) ∷ (unit (at 3 1) (u.theorem None (statement [] (term (quantifier true (free ((decl (codes "a") 0 (at 3 12)) ∷ []) end_groups)) (part (term (infixed (codes "=")) (part (term (name (codes "a")) none (at 3 16)) (part (term (name (codes "a")) none (at 3 20)) none)) (at 3 18)) none) (at 3 9))) (obvious (at 3 22)))) ∷ [])) ∷ []) ≡ Err (fault.At (codes "M") (at 3 12) (kind.Redeclared (codes "a")))
unfolding resolution library_entries library_scope libraries.names libraries.library libraries.is_library module_names extend unit_walk theorem assumption assumed define alone judged stated chosen cited facts
bound_again = refl

-- D(x) == x' = y primes its parameter, whose number comes before that of D
definition_with_prime : shown (resolution ((module_of (codes "M") (at 1 1) [] ((unit (at 2 1) (u.variables ((decl (codes "a") 0 (at 2 11)) ∷ (decl (codes "b") 0 (at 2 14)) ∷ (decl (codes "y") 0 (at 2 17)) ∷ []))) ∷ (unit (at 3 1) (u.definition (def (codes "D") ((decl (codes "x") 0 (at 3 3)) ∷ []) (term (infixed (codes "=")) (part (term prime (part (term (name (codes "x")) none (at 3 9)) none) (at 3 10)) (part (term (name (codes "y")) none (at 3 14)) none)) (at 3 12)) (at 3 1) end_defs))) ∷ (unit (at 4 1) (u.theorem (Some (decl (codes "T") 0 (at 4 9))) (statement ((given (term (infixed (codes "=")) (part (term (name (codes "a")) none (at 4 21)) (part (term (name (codes "b")) none (at 4 25)) none)) (at 4 23))) ∷ []) (term (infixed (codes "=>")) (part (term (call (codes "D")) (part (term (name (codes "a")) none (at 4 35)) none) (at 4 33)) (part (term (call (codes "D")) (part (term (name (codes "b")) none (at 4 43)) none) (at 4 41)) none)) (at 4 38))) (by_facts (at 4 46) false [] ((decl (codes "D") 0 (at 4 53)) ∷ [])))) ∷ [])) ∷ [])) ≡ Ok (((entry (codes "a") sorts.State 0 1 []) ∷ (entry (codes "b") sorts.State 0 1 []) ∷ (entry (codes "y") sorts.State 0 1 []) ∷ (entry (codes "x") sorts.Bound 0 0 []) ∷ (entry (codes "D") sorts.Definition 1 1 (true ∷ [])) ∷ (entry (codes "T") sorts.Theorem 0 0 []) ∷ []), ((((at 2 11), 25) ∷ ((at 2 14), 26) ∷ ((at 2 17), 27) ∷ ((at 3 1), 29) ∷ ((at 3 3), 28) ∷ ((at 3 9), 28) ∷ ((at 3 14), 27) ∷ ((at 4 9), 30) ∷ ((at 4 21), 25) ∷ ((at 4 25), 26) ∷ ((at 4 33), 29) ∷ ((at 4 35), 25) ∷ ((at 4 41), 29) ∷ ((at 4 43), 26) ∷ ((at 4 53), 29) ∷ []) ∷ []))
unfolding resolution library_entries library_scope libraries.names libraries.library libraries.is_library module_names extend unit_walk theorem assumption assumed define alone judged stated chosen cited facts
definition_with_prime = refl

-- ASSUME y(1, y) = z: the level at the keyword comes first
arity_and_level : resolution ((module_of (codes "M") (at 1 1) [] ((unit (at 2 1) (u.variables ((decl (codes "y") 0 (at 2 10)) ∷ []))) ∷ (unit (at 3 1) (u.assume None (term (infixed (codes "=")) (part (term (call (codes "y")) (part (term (number 1) none (at 3 10)) (part (term (name (codes "y")) none (at 3 13)) none)) (at 3 8)) (part (term (name (codes "z")) none (at 3 18)) none)) (at 3 16)))) ∷ [])) ∷ []) ≡ Err (fault.At (codes "M") (at 3 1) kind.AssumeLevel)
unfolding resolution library_entries library_scope libraries.names libraries.library libraries.is_library module_names extend unit_walk theorem assumption assumed define alone judged stated chosen cited facts
arity_and_level = refl
