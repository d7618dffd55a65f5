-- The walk that rebuilds an expression: tasks that wait, the next last, and the parts that are built, the newest last.
use Rattle.std.specs.Prelude.{◌≡◌, ℕ, suc, ◌-◌, ◌<◌, ◌≤◌, List, [], ◌∷◌, ◌++◌, take, drop, length}
use Rattle.core_expr.specs.declared.row.RowKind.{RowKind}
use Rattle.core_expr.specs.declared.row.RowKind.TheVariants as kind
use Rattle.core_expr.specs.Tree.{Tree}
use Rattle.core_expr.specs.Heads.{subtrees, kind_number, kind_symbol, make, IsWellFormed}
use Rattle.core_expr.specs.Flat.{rows_of}
use Rattle.core_expr.specs.Places.{subtree, kind_of, root_numbers}
use Rattle.expr_parts.specs.declared.change.Change.{Change}
use Rattle.expr_parts.specs.declared.task.Task.{Task}
use Rattle.expr_parts.specs.declared.task.Task.TheVariants as task
use Rattle.expr_parts.specs.Rebuilt.{rebuilt}

-- the root of a tree over the last of these trees
abbrev pub joined : Tree → List Tree → List Tree
joined x us =
    let n = length us - length (subtrees x) in
    take n us ++ make (kind_number (kind_of x)) (kind_symbol (kind_of x)) (root_numbers x) (drop n us) ∷ []

-- the depth of the last part of a node, which a binder binds in
abbrev pub inner : ℕ → RowKind → ℕ
inner d (kind.Binding b) = suc d
inner d k = d

module _ (c : Change) where
  -- parts rebuilt, of which the last stands under e binders
  abbrev pub parts_rebuilt : ℕ → ℕ → List Tree → List Tree
  parts_rebuilt d e [] = []
  parts_rebuilt d e (x ∷ []) = rebuilt c e x ∷ []
  parts_rebuilt d e (x ∷ y ∷ ys) = rebuilt c d x ∷ parts_rebuilt d e (y ∷ ys)

  -- in the expression t
  module _ (t : Tree) where
    -- the parts once a task is done
    abbrev pub done : Task → List Tree → List Tree
    done (task.Visit i d) us = us ++ rebuilt c d (subtree t i) ∷ []
    done (task.Join i) us = joined (subtree t i) us

    -- the parts once all tasks are done, the last of them first
    abbrev pub finish : List Task → List Tree → List Tree
    finish [] us = us
    finish (k ∷ ks) us = done k (finish ks us)

    -- a task at a node of the expression where a well-formed subtree stands, with as many parts as the node takes
    abbrev pub IsFit : Task → List Tree → Type 0
    IsFit (task.Visit i d) us = (i < length (rows_of t)) × IsWellFormed (subtree t i)
    IsFit (task.Join i) us = (i < length (rows_of t)) × IsWellFormed (subtree t i) × (length (subtrees (subtree t i)) ≤ length us)

    abbrev pub AreFit : List Task → List Tree → Type 0
    AreFit [] us = Unit {0}
    AreFit (k ∷ ks) us = IsFit k (finish ks us) × AreFit ks us

    -- new tasks build these trees, and then do the old ones
    pub record Builds (old new : List Task) (us : List Tree) : Type 0 where
      pub builds : (vs : List Tree) → finish new vs ≡ finish old (vs ++ us)
      pub fit : (vs : List Tree) → AreFit old (vs ++ us) → AreFit new vs

    -- what is left to do rebuilds the subtree at the node n
    pub record Gives (n : ℕ) (ks : List Task) (us : List Tree) : Type 0 where
      pub gives : finish ks us ≡ rebuilt c 0 (subtree t n) ∷ []
      pub fit : AreFit ks us
