-- How far the loose variables of a node go, by those of its parts.
use Rattle.std.specs.Prelude.{ℕ, suc, Bool, true, false, max, pred, List, [], ◌∷◌}
use Rattle.core_expr.specs.declared.row.RowKind.{RowKind}
use Rattle.core_expr.specs.declared.row.RowKind.TheVariants.{Bound, Binding}
use Rattle.core_expr.specs.Tree.{Tree}
use Rattle.core_expr.specs.Heads.{kind_at, first, front, back}
use Rattle.core_expr.specs.Loose.{loose}

-- the greatest of these
abbrev pub most_loose : List Tree → ℕ
most_loose [] = 0
most_loose (t ∷ ts) = max (loose t) (most_loose ts)

abbrev pub binds : RowKind → Bool
binds (Binding b) = true
binds k = false

-- the head numbers of the binders
abbrev pub is_binder : ℕ → Bool
is_binder h = binds (kind_at h)

-- the loose variables of a node of this kind
abbrev pub loose_over : RowKind → List ℕ → List Tree → ℕ
loose_over Bound ns ts = suc (first ns)
loose_over (Binding b) ns ts = max (most_loose (front ts)) (pred (loose (back ts)))
loose_over k ns ts = most_loose ts
