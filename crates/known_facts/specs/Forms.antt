-- Forms of goals by their roots.
use Rattle.std.specs.Prelude.{Bool, true, false, Option, Some, None}
use Rattle.core_expr.specs.declared.head.Binder.TheVariants as binder
use Rattle.core_expr.specs.declared.row.RowKind.{RowKind}
use Rattle.core_expr.specs.declared.row.RowKind.TheVariants.{Binding}
use Rattle.core_expr.specs.Tree.{Tree}
use Rattle.proof_contexts.specs.Contexts.{Pair, as_all, as_ex, as_imp, as_and}
use Rattle.known_facts.specs.declared.item.Quantifier.{Quantifier}
use Rattle.known_facts.specs.declared.item.Quantifier.TheVariants.{All, Exists}

-- a root of this kind is the quantifier's
abbrev pub is_root_of : Quantifier → RowKind → Bool
is_root_of All (Binding binder.All) = true
is_root_of Exists (Binding binder.Ex) = true
is_root_of q k = false

-- the body of a formula that begins with the quantifier
abbrev pub as_quantified : Quantifier → Tree → Option Tree
as_quantified All e = as_all e
as_quantified Exists e = as_ex e

-- what restricts the name, and what is said of it
abbrev pub as_restricted : Quantifier → Tree → Option Pair
as_restricted All e = as_imp e
as_restricted Exists e = as_and e

abbrev pub pair_of : Tree × Tree → Pair
pair_of p = record { first = p.0; second = p.1 }

abbrev pub as_pair : Option (Tree × Tree) → Option Pair
as_pair None = None
as_pair (Some p) = Some (pair_of p)
