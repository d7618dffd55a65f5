-- Small terms with their unifiers.
use Rattle.std.specs.Prelude.{◌≡◌, ℕ, Some, None, List, [], ◌∷◌}
use Rattle.std.proofs.Common.{refl}
use Rattle.core_expr.specs.declared.head.Sym.{Sym}
use Rattle.core_expr.specs.declared.head.SymKind.TheVariants.{Canon}
use Rattle.core_expr.specs.Tree.{Tree, all_}
use Rattle.core_expr.specs.Tree.Tree.{bound, app}
use Rattle.core_expr.specs.Tree.Parts.{end, part}
use Rattle.unifier_definition.specs.Unify.{mgu}

abbrev symbol : ℕ → ℕ → Sym
symbol n a = record { kind = Canon; number = n; arity = a }

-- the metavariables m and n, a constant a, and the functions f and g
abbrev m : Sym
m = symbol 7 0

abbrev n : Sym
n = symbol 8 0

abbrev one : Sym → Tree
one s = app s end

abbrev f : Tree → Tree → Tree
f s t = app (symbol 1 2) (part s (part t end))

abbrev g : Tree → Tree
g s = app (symbol 2 1) (part s end)

abbrev a : Tree
a = one (symbol 0 0)

abbrev both : List Sym
both = m ∷ n ∷ []

-- n would occur in its own term
no_term_holds_itself : mgu both (f (one m) (one m)) (f (one n) (g (one n))) ≡ None
no_term_holds_itself = refl

binds_both : mgu both (f (one m) (one n)) (f a (one m)) ≡ Some (record { name = m; term = a } ∷ record { name = n; term = a } ∷ [])
binds_both = refl

-- of two metavariables the left one is bound
binds_the_left : mgu both (one m) (one n) ≡ Some (record { name = m; term = one n } ∷ [])
binds_the_left = refl

-- a later binding is put into an earlier term
applies_later_bindings : mgu both (f (one m) (one n)) (f (g (one n)) a) ≡ Some (record { name = m; term = g a } ∷ record { name = n; term = a } ∷ [])
applies_later_bindings = refl

-- a symbol that is not listed is a constant
constants_differ : mgu (m ∷ []) (one m) (one n) ≡ Some (record { name = m; term = one n } ∷ [])
constants_differ = refl

nothing_to_bind : mgu [] (one m) (one n) ≡ None
nothing_to_bind = refl

-- a part with a loose variable is bound to nothing
no_loose_variable : mgu both (all_ (one m)) (all_ (bound 0)) ≡ None
no_loose_variable = refl
