-- The nodes of an expression by their places, and the subtrees that they are the roots of.
use Rattle.std.specs.Prelude.{◌≡◌, ℕ, suc, ◌-◌, List, [], ◌∷◌, take, drop, length}
use Rattle.core_expr.specs.declared.row.RowKind.{RowKind}
use Rattle.core_expr.specs.declared.row.RowKind.TheVariants.{Bound, Symbol, Plain, Binding}
use Rattle.core_expr.specs.Tree.{Tree, size}
use Rattle.core_expr.specs.Tree.Tree.{bound, app, node, bind}
use Rattle.core_expr.specs.Heads.{table_numbers, subtrees}
use Rattle.core_expr.specs.Flat.{rows_of, tree_of, row_at}
use Rattle.core_expr.specs.Spans.{nodes_in}

-- the subtree whose root is the node i: what the nodes up to i complete last
abbrev pub subtree : Tree → ℕ → Tree
subtree t i = tree_of (take (suc i) (rows_of t))

-- what the root of a tree is
abbrev pub kind_of : Tree → RowKind
kind_of (bound i) = Bound
kind_of (app f ps) = Symbol f
kind_of (node h ns ps) = Plain h
kind_of (bind b ps e) = Binding b

-- the numbers of the root of a tree, as the table of heads has them
abbrev pub root_numbers : Tree → List ℕ
root_numbers (bound i) = i ∷ []
root_numbers (app f ps) = []
root_numbers (node h ns ps) = table_numbers h ns (size ps)
root_numbers (bind b ps e) = []

-- the place of part k of the node i: the nodes of the later parts stand between them
abbrev pub part_index : Tree → ℕ → ℕ → ℕ
part_index t i k = (i - nodes_in (drop (suc k) (subtrees (subtree t i)))) - 1

-- the node at a place is the root of the subtree there
pub record RootAt (t : Tree) (i : ℕ) : Type 0 where
  pub kind_is : (row_at t i).kind ≡ kind_of (subtree t i)
  pub numbers_are : (row_at t i).numbers ≡ root_numbers (subtree t i)
  pub parts_are : (row_at t i).parts ≡ length (subtrees (subtree t i))
