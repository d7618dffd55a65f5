-- The first difference of two nodes by their parts.
use Rattle.std.specs.Prelude.{◌≡◌, ℕ, List, [], ◌∷◌, length}
use Rattle.core_expr.specs.declared.head.Sym.{Sym}
use Rattle.core_expr.specs.declared.row.RowKind.{RowKind}
use Rattle.core_expr.specs.declared.row.RowKind.TheVariants.{Bound, Symbol, Plain, Binding}
use Rattle.core_expr.specs.Tree.{Tree}
use Rattle.core_expr.specs.Heads.{make_kind, HasBody}
use Rattle.unifier_definition.specs.Unify.{Difference, then, difference}
use Rattle.unifier_definition.specs.Unify.Difference.{Same, Clash}

-- the first difference of two lists of terms
abbrev pub first_difference : List Sym → List Tree → List Tree → Difference
first_difference ms [] [] = Same
first_difference ms [] (t ∷ ts) = Clash
first_difference ms (s ∷ ss) [] = Clash
first_difference ms (s ∷ ss) (t ∷ ts) = then (difference ms s t) (first_difference ms ss ts)

-- no bound variable
abbrev pub IsNoVariable : RowKind → Type 0
IsNoVariable Bound = ⊥
IsNoVariable (Symbol f) = Unit {0}
IsNoVariable (Plain h) = Unit {0}
IsNoVariable (Binding b) = Unit {0}

-- two nodes of one kind with the same numbers differ first where their parts do, so that a comparison follows one path
abbrev pub DifferenceByParts : Type 0
DifferenceByParts =
    (ms : List Sym) (k : RowKind) (ns : List ℕ) (ss ts : List Tree) → IsNoVariable k → length ss ≡ length ts → HasBody k (length ss)
    → difference ms (make_kind k ns ss) (make_kind k ns ts) ≡ first_difference ms ss ts
