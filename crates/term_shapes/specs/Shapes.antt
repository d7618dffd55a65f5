-- The forms of terms: the tree of each over the trees of its parts, its node, and the form of a node.
use Rattle.std.specs.Prelude.{◌≡◌, ℕ, cond, nat_eq, List, [], ◌∷◌}
use Rattle.std.proofs.Common.{get_or}
use Rattle.core_expr.specs.declared.head.Head.{Head}
use Rattle.core_expr.specs.declared.head.Binder.{Binder}
use Rattle.core_expr.specs.declared.head.Head.TheVariants.{True, False, Num, Str, Boolean, Not, And, Or, Imp, Iff, Eq, In, Subseteq, Enum, Cup, Cap, Diff, Power, Union, FunSet, Dom, Apply, Except, Tuple, If, Temporal}
use Rattle.core_expr.specs.declared.head.Binder.TheVariants.{All, Ex, Filter, Image, Fun, Choose}
use Rattle.core_expr.specs.declared.row.RowKind.{RowKind}
use Rattle.core_expr.specs.declared.row.RowKind.TheVariants.{Bound, Symbol, Plain, Binding}
use Rattle.core_expr.specs.Tree.{Tree, true_, false_, boolean_, not_, and_, or_, imp_, iff_, eq_, in_, subseteq_, cup_, cap_, diff_, power_, union_, funset_, dom_, apply_, except_, if_, enum_, tuple_, num_, str_, all_, ex_, choose_, filter_, image_, fun_}
use Rattle.core_expr.specs.Tree.Tree.{bound, app, node}
use Rattle.core_expr.specs.Tree.Parts.{end}
use Rattle.core_expr.specs.Heads.{kind_at, parts_of, subtrees}
use Rattle.core_expr.specs.Nodes.{Node, canon_sym}
use Rattle.term_bank.specs.Banks.{tree_at, node_over}
use Rattle.term_shapes.specs.declared.cell.Cell.{Cell}
use Rattle.term_shapes.specs.declared.cell.Cell.TheVariants.{Leaf, Numbered, Paired, One, Two, Three}
use Rattle.term_shapes.specs.declared.shape.Shape.{Shape}
use Rattle.term_shapes.specs.declared.shape.Shape.TheVariants as shape

-- the tree of this form over the trees of its parts; an enumeration and a tuple without entries, a string without characters, a symbol without arguments
abbrev pub tree_of : List Tree → Shape → Tree
tree_of ts shape.True = true_
tree_of ts shape.False = false_
tree_of ts (shape.Num i j) = num_ i j
tree_of ts shape.Str = str_ []
tree_of ts shape.Boolean = boolean_
tree_of ts (shape.Bound i) = bound i
tree_of ts (shape.Symbol i j) = app (canon_sym i j) end
tree_of ts (shape.Not a) = not_ (tree_at ts a)
tree_of ts (shape.And a b) = and_ (tree_at ts a) (tree_at ts b)
tree_of ts (shape.Or a b) = or_ (tree_at ts a) (tree_at ts b)
tree_of ts (shape.Imp a b) = imp_ (tree_at ts a) (tree_at ts b)
tree_of ts (shape.Iff a b) = iff_ (tree_at ts a) (tree_at ts b)
tree_of ts (shape.All a) = all_ (tree_at ts a)
tree_of ts (shape.Ex a) = ex_ (tree_at ts a)
tree_of ts (shape.Eq a b) = eq_ (tree_at ts a) (tree_at ts b)
tree_of ts (shape.In a b) = in_ (tree_at ts a) (tree_at ts b)
tree_of ts (shape.Subseteq a b) = subseteq_ (tree_at ts a) (tree_at ts b)
tree_of ts shape.Enum = enum_ end
tree_of ts (shape.Cup a b) = cup_ (tree_at ts a) (tree_at ts b)
tree_of ts (shape.Cap a b) = cap_ (tree_at ts a) (tree_at ts b)
tree_of ts (shape.Diff a b) = diff_ (tree_at ts a) (tree_at ts b)
tree_of ts (shape.Power a) = power_ (tree_at ts a)
tree_of ts (shape.Union a) = union_ (tree_at ts a)
tree_of ts (shape.Filter a b) = filter_ (tree_at ts a) (tree_at ts b)
tree_of ts (shape.Image a b) = image_ (tree_at ts a) (tree_at ts b)
tree_of ts (shape.Fun a b) = fun_ (tree_at ts a) (tree_at ts b)
tree_of ts (shape.FunSet a b) = funset_ (tree_at ts a) (tree_at ts b)
tree_of ts (shape.Dom a) = dom_ (tree_at ts a)
tree_of ts (shape.Apply a b) = apply_ (tree_at ts a) (tree_at ts b)
tree_of ts (shape.Except a b c) = except_ (tree_at ts a) (tree_at ts b) (tree_at ts c)
tree_of ts shape.Tuple = tuple_ end
tree_of ts (shape.If a b c) = if_ (tree_at ts a) (tree_at ts b) (tree_at ts c)
tree_of ts (shape.Choose a) = choose_ (tree_at ts a)

-- the characters of a string
abbrev pub text_of : Tree → List ℕ
text_of (node h ns ps) = ns
text_of _ = []

-- the tree t has this form; where the form names no parts or characters, they are t's own
abbrev pub HasShape : List Tree → Tree → Shape → Type 0
HasShape ts t shape.Str = t ≡ str_ (text_of t)
HasShape ts t shape.Enum = t ≡ enum_ (parts_of (subtrees t))
HasShape ts t shape.Tuple = t ≡ tuple_ (parts_of (subtrees t))
HasShape ts t (shape.Symbol i j) = t ≡ app (canon_sym i j) (parts_of (subtrees t))
HasShape ts t s = t ≡ tree_of ts s

-- a symbol takes no arguments
abbrev pub IsWhole : Shape → Type 0
IsWhole (shape.Symbol i j) = j ≡ 0
IsWhole s = Unit {0}

-- the node of a cell
abbrev pub node_in : Cell → Node
node_in (Leaf h) = node_over h [] []
node_in (Numbered h i) = node_over h (i ∷ []) []
node_in (Paired h i j) = node_over h (i ∷ j ∷ []) []
node_in (One h a) = node_over h [] (a ∷ [])
node_in (Two h a b) = node_over h [] (a ∷ b ∷ [])
node_in (Three h a b c) = node_over h [] (a ∷ b ∷ c ∷ [])

-- the cell of a form
abbrev pub cell_of : Shape → Cell
cell_of shape.True = Leaf 0
cell_of shape.False = Leaf 1
cell_of (shape.Num i j) = Paired 2 i j
cell_of shape.Str = Numbered 3 0
cell_of shape.Boolean = Leaf 4
cell_of (shape.Bound i) = Numbered 5 i
cell_of (shape.Symbol i j) = Paired 6 i j
cell_of (shape.Not a) = One 7 a
cell_of (shape.And a b) = Two 8 a b
cell_of (shape.Or a b) = Two 9 a b
cell_of (shape.Imp a b) = Two 10 a b
cell_of (shape.Iff a b) = Two 11 a b
cell_of (shape.All a) = One 12 a
cell_of (shape.Ex a) = One 13 a
cell_of (shape.Eq a b) = Two 14 a b
cell_of (shape.In a b) = Two 15 a b
cell_of (shape.Subseteq a b) = Two 16 a b
cell_of shape.Enum = Numbered 17 0
cell_of (shape.Cup a b) = Two 18 a b
cell_of (shape.Cap a b) = Two 19 a b
cell_of (shape.Diff a b) = Two 20 a b
cell_of (shape.Power a) = One 21 a
cell_of (shape.Union a) = One 22 a
cell_of (shape.Filter a b) = Two 23 a b
cell_of (shape.Image a b) = Two 24 a b
cell_of (shape.Fun a b) = Two 25 a b
cell_of (shape.FunSet a b) = Two 26 a b
cell_of (shape.Dom a) = One 27 a
cell_of (shape.Apply a b) = Two 28 a b
cell_of (shape.Except a b c) = Three 29 a b c
cell_of shape.Tuple = Numbered 30 0
cell_of (shape.If a b c) = Three 31 a b c
cell_of (shape.Choose a) = One 32 a

-- the parts that a form names
abbrev pub named_parts : Shape → List ℕ
named_parts s = (node_in (cell_of s)).parts

-- the form of a node whose head binds nothing, with these numbers and parts
abbrev pub plain_shape : Head → List ℕ → List ℕ → Shape
plain_shape True ns ps = shape.True
plain_shape False ns ps = shape.False
plain_shape Num ns ps = shape.Num (get_or ns 0 0) (get_or ns 1 0)
plain_shape Str ns ps = shape.Str
plain_shape Boolean ns ps = shape.Boolean
plain_shape Not ns ps = shape.Not (get_or ps 0 0)
plain_shape And ns ps = shape.And (get_or ps 0 0) (get_or ps 1 0)
plain_shape Or ns ps = shape.Or (get_or ps 0 0) (get_or ps 1 0)
plain_shape Imp ns ps = shape.Imp (get_or ps 0 0) (get_or ps 1 0)
plain_shape Iff ns ps = shape.Iff (get_or ps 0 0) (get_or ps 1 0)
plain_shape Eq ns ps = shape.Eq (get_or ps 0 0) (get_or ps 1 0)
plain_shape In ns ps = shape.In (get_or ps 0 0) (get_or ps 1 0)
plain_shape Subseteq ns ps = shape.Subseteq (get_or ps 0 0) (get_or ps 1 0)
plain_shape Enum ns ps = shape.Enum
plain_shape Cup ns ps = shape.Cup (get_or ps 0 0) (get_or ps 1 0)
plain_shape Cap ns ps = shape.Cap (get_or ps 0 0) (get_or ps 1 0)
plain_shape Diff ns ps = shape.Diff (get_or ps 0 0) (get_or ps 1 0)
plain_shape Power ns ps = shape.Power (get_or ps 0 0)
plain_shape Union ns ps = shape.Union (get_or ps 0 0)
plain_shape FunSet ns ps = shape.FunSet (get_or ps 0 0) (get_or ps 1 0)
plain_shape Dom ns ps = shape.Dom (get_or ps 0 0)
plain_shape Apply ns ps = shape.Apply (get_or ps 0 0) (get_or ps 1 0)
plain_shape Except ns ps = shape.Except (get_or ps 0 0) (get_or ps 1 0) (get_or ps 2 0)
plain_shape Tuple ns ps = shape.Tuple
plain_shape If ns ps = shape.If (get_or ps 0 0) (get_or ps 1 0) (get_or ps 2 0)
plain_shape Temporal ns ps = shape.True

-- the form of a binder's node with these parts
abbrev pub binder_shape : Binder → List ℕ → Shape
binder_shape All ps = shape.All (get_or ps 0 0)
binder_shape Ex ps = shape.Ex (get_or ps 0 0)
binder_shape Filter ps = shape.Filter (get_or ps 0 0) (get_or ps 1 0)
binder_shape Image ps = shape.Image (get_or ps 0 0) (get_or ps 1 0)
binder_shape Fun ps = shape.Fun (get_or ps 0 0) (get_or ps 1 0)
binder_shape Choose ps = shape.Choose (get_or ps 0 0)

-- the form of a node of this kind
abbrev pub kind_shape : RowKind → List ℕ → List ℕ → Shape
kind_shape Bound ns ps = shape.Bound (get_or ns 0 0)
kind_shape (Symbol f) ns ps = shape.Symbol f.number f.arity
kind_shape (Plain h) ns ps = plain_shape h ns ps
kind_shape (Binding b) ns ps = binder_shape b ps

-- the form of a node with this head number, these numbers and parts
abbrev pub shape_over : ℕ → List ℕ → List ℕ → Shape
shape_over h ns ps = cond (nat_eq h 6) (shape.Symbol (get_or ns 0 0) (get_or ns 1 0)) (kind_shape (kind_at h) ns ps)
