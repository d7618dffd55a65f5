-- Tables of shared nodes: each node names its parts by their places before it.
use Rattle.std.specs.Prelude.{ℕ, suc, ◌<◌, Bool, IsTrue, ◌&&◌, cond, nat_lt, nat_eq, List, [], ◌∷◌, ◌++◌, length}
use Rattle.std.proofs.Common.{get_or}
use Rattle.core_expr.specs.declared.head.Sym.{Sym}
use Rattle.core_expr.specs.declared.head.SymKind.TheVariants.{Canon}
use Rattle.core_expr.specs.Tree.{Tree, true_}
use Rattle.core_expr.specs.declared.row.RowKind.{RowKind}
use Rattle.core_expr.specs.declared.row.RowKind.TheVariants.{Bound, Symbol, Plain, Binding}
use Rattle.core_expr.specs.Heads.{kind_at, kind_fits, first, after_first, make_kind}

-- a node over earlier nodes: its head number, its numbers (of a symbol's node the symbol's number and arity), and the
-- places of its parts
pub record Node : Type 0 where
  pub head : ℕ
  pub numbers : List ℕ
  pub parts : List ℕ

-- a symbol of a canonical form
abbrev pub canon_sym : ℕ → ℕ → Sym
canon_sym n a = record { kind = Canon; number = n; arity = a }

-- what a node with this head number and these numbers is
abbrev pub node_kind : ℕ → List ℕ → RowKind
node_kind h ns = cond (nat_eq h 6) (Symbol (canon_sym (first ns) (first (after_first ns)))) (kind_at h)

-- the numbers of a node of a table: of a symbol's node the symbol's number and arity
abbrev pub node_numbers : RowKind → List ℕ → List ℕ
node_numbers Bound ns = ns
node_numbers (Symbol f) ns = f.number ∷ f.arity ∷ []
node_numbers (Plain h) ns = ns
node_numbers (Binding b) ns = ns

-- a node of this kind may have these numbers in a table, and so many parts
abbrev pub numbers_fit : RowKind → List ℕ → ℕ → Bool
numbers_fit (Symbol f) ns k = nat_eq (length ns) 2 && nat_eq k f.arity
numbers_fit r ns k = kind_fits r ns k

-- the table of heads allows a node with this head number, these numbers and so many parts; the temporal mark is no such
-- node
abbrev pub node_fits : ℕ → List ℕ → ℕ → Bool
node_fits h ns k = nat_lt h 33 && numbers_fit (node_kind h ns) ns k

-- the tree with this head number, these numbers and parts
abbrev pub node_make : ℕ → List ℕ → List Tree → Tree
node_make h ns ts = make_kind (node_kind h ns) ns ts

-- the trees at these places
abbrev pub picked : List Tree → List ℕ → List Tree
picked ts [] = []
picked ts (i ∷ is) = get_or ts i true_ ∷ picked ts is

-- the tree of a node over these trees
abbrev pub tree_over : List Tree → Node → Tree
tree_over ts n = node_make n.head n.numbers (picked ts n.parts)

-- these trees, and then those of the nodes, each over all before it
abbrev pub trees_from : List Tree → List Node → List Tree
trees_from ts [] = ts
trees_from ts (n ∷ ns) = trees_from (ts ++ tree_over ts n ∷ []) ns

-- the trees of a table of nodes
abbrev pub trees_of : List Node → List Tree
trees_of ns = trees_from [] ns

abbrev pub AreBelow : ℕ → List ℕ → Type 0
AreBelow k [] = Unit {0}
AreBelow k (i ∷ is) = (i < k) × AreBelow k is

-- a node that may stand at the place i
abbrev pub IsNode : Node → ℕ → Type 0
IsNode n i = IsTrue (node_fits n.head n.numbers (length n.parts)) × AreBelow i n.parts

-- the nodes of a table from the place i on
abbrev pub AreNodes : ℕ → List Node → Type 0
AreNodes i [] = Unit {0}
AreNodes i (n ∷ ns) = IsNode n i × AreNodes (suc i) ns
