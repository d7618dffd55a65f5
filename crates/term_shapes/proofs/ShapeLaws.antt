-- The tree of a node has the node's form, and the node of a form has its tree.
use Rattle.std.proofs.Common.{◌≡◌, ℕ, ◌<◌, Bool, true, false, ◌&&◌, cond, nat_eq, Option, Some, None, List, [], ◌∷◌, length, get_or, refl, ap, sym, ◌∙◌, arith, subst}
use Rattle.std.specs.Prelude.{IfSome, IfNone}
use Rattle.std.proofs.lemmas.Bool.{and_parts, eqb-true, agree_below_at}
use Rattle.core_expr.specs.declared.head.Head.{Head}
use Rattle.core_expr.specs.declared.head.Binder.{Binder}
use Rattle.core_expr.specs.declared.head.Head.TheVariants.{True, False, Num, Str, Boolean, Not, And, Or, Imp, Iff, Eq, In, Subseteq, Enum, Cup, Cap, Diff, Power, Union, FunSet, Dom, Apply, Except, Tuple, If, Temporal}
use Rattle.core_expr.specs.declared.head.Binder.TheVariants.{All, Ex, Filter, Image, Fun, Choose}
use Rattle.core_expr.specs.declared.row.RowKind.{RowKind}
use Rattle.core_expr.specs.declared.row.RowKind.TheVariants.{Bound, Symbol, Plain, Binding}
use Rattle.core_expr.specs.Tree.{Tree}
use Rattle.core_expr.specs.Tree.Tree.{app, node}
use Rattle.core_expr.specs.Heads.{kind_table, kind_at, kind_number, kind_symbol, is_empty, is_only, is_text, first, after_first, parts_of, subtrees, make_kind}
use Rattle.core_expr.specs.Places.{kind_of}
use Rattle.core_expr.specs.Nodes.{Node, IsNode, AreBelow, canon_sym, node_kind, numbers_fit, node_fits, picked, tree_over}
use Rattle.core_expr.specs.Laws.{ShowsNode}
use Rattle.core_expr.proofs.BuildLaws.{list_of-parts_of}
use Rattle.core_expr.proofs.Shown.{kind_at-symbol}
use Rattle.core_expr.proofs.NodeLaws.{node_below, node_numbers_fit, node-shows}
use Rattle.term_bank.specs.Banks.{HasNode, HasTree, tree_at}
use Rattle.term_bank.proofs.TableLaws.{is_true, fits-picked}
use Rattle.term_shapes.specs.declared.cell.Cell.{Cell}
use Rattle.term_shapes.specs.declared.shape.Shape.{Shape}
use Rattle.term_shapes.specs.declared.shape.Shape.TheVariants as shape
use Rattle.term_shapes.specs.Shapes.{tree_of, HasShape, IsWhole, node_in, cell_of, named_parts, kind_shape, shape_over}

-- lists of a given length
list0 : (P : List ℕ → Type 0) (xs : List ℕ) → length xs ≡ 0 → P [] → P xs
list0 P [] e f = f
list0 P (x ∷ xs) e f = absurd (omega arith)

list1 : (P : List ℕ → Type 0) (xs : List ℕ) → length xs ≡ 1 → ((a : ℕ) → P (a ∷ [])) → P xs
list1 P [] e f = absurd (omega arith)
list1 P (x ∷ xs) e f = list0 (λ ys. P (x ∷ ys)) xs (omega arith) (f x)

list2 : (P : List ℕ → Type 0) (xs : List ℕ) → length xs ≡ 2 → ((a b : ℕ) → P (a ∷ b ∷ [])) → P xs
list2 P [] e f = absurd (omega arith)
list2 P (x ∷ xs) e f = list1 (λ ys. P (x ∷ ys)) xs (omega arith) (f x)

list3 : (P : List ℕ → Type 0) (xs : List ℕ) → length xs ≡ 3 → ((a b c : ℕ) → P (a ∷ b ∷ c ∷ [])) → P xs
list3 P [] e f = absurd (omega arith)
list3 P (x ∷ xs) e f = list2 (λ ys. P (x ∷ ys)) xs (omega arith) (f x)

-- the node of this kind over these parts has its form, whose parts are among them
abbrev Reads : List Tree → ℕ → RowKind → List ℕ → List ℕ → Type 0
Reads ts i k ns ps = AreBelow i ps → HasShape ts (make_kind k ns (picked ts ps)) (kind_shape k ns ps) × AreBelow i (named_parts (kind_shape k ns ps))

empty : (ns : List ℕ) → is_empty ns ≡ true → length ns ≡ 0
empty [] e = refl
empty (n ∷ ns) e = cc

none : (ts : List Tree) (i : ℕ) (k : RowKind) (ns ps : List ℕ) → (is_empty ns && nat_eq (length ps) 0) ≡ true → Reads ts i k [] [] → Reads ts i k ns ps
none ts i k ns ps w f = let q = and_parts (is_empty ns) (nat_eq (length ps) 0) w in list0 (λ ns. Reads ts i k ns ps) ns (empty ns q.0) (list0 (Reads ts i k []) ps (eqb-true _ _ q.1) f)

one : (ts : List Tree) (i : ℕ) (k : RowKind) (ns ps : List ℕ) → (is_empty ns && nat_eq (length ps) 1) ≡ true → ((a : ℕ) → Reads ts i k [] (a ∷ [])) → Reads ts i k ns ps
one ts i k ns ps w f = let q = and_parts (is_empty ns) (nat_eq (length ps) 1) w in list0 (λ ns. Reads ts i k ns ps) ns (empty ns q.0) (list1 (Reads ts i k []) ps (eqb-true _ _ q.1) f)

two : (ts : List Tree) (i : ℕ) (k : RowKind) (ns ps : List ℕ) → (is_empty ns && nat_eq (length ps) 2) ≡ true → ((a b : ℕ) → Reads ts i k [] (a ∷ b ∷ [])) → Reads ts i k ns ps
two ts i k ns ps w f = let q = and_parts (is_empty ns) (nat_eq (length ps) 2) w in list0 (λ ns. Reads ts i k ns ps) ns (empty ns q.0) (list2 (Reads ts i k []) ps (eqb-true _ _ q.1) f)

three : (ts : List Tree) (i : ℕ) (k : RowKind) (ns ps : List ℕ) → (is_empty ns && nat_eq (length ps) 3) ≡ true → ((a b c : ℕ) → Reads ts i k [] (a ∷ b ∷ c ∷ [])) → Reads ts i k ns ps
three ts i k ns ps w f = let q = and_parts (is_empty ns) (nat_eq (length ps) 3) w in list0 (λ ns. Reads ts i k ns ps) ns (empty ns q.0) (list3 (Reads ts i k []) ps (eqb-true _ _ q.1) f)

-- a list of one number has nothing after it
only : (k : ℕ) (ns : List ℕ) → is_only k ns ≡ true → after_first ns ≡ []
only k [] e = cc
only k (n ∷ []) e = refl
only k (n ∷ m ∷ ns) e = absurd (no (nat_eq n k) e)
  where
    no : (b : Bool) → (b && false) ≡ true → ⊥
    no true e = cc
    no false e = cc

-- the temporal mark is no node of a bank
abbrev is_temporal : RowKind → Bool
is_temporal (Plain Temporal) = true
is_temporal _ = false

temporal_table : (h : ℕ) → h < 33 → is_temporal (kind_at h) ≡ nat_eq h 6
unfolding kind_at kind_table
temporal_table h l = agree_below_at (λ h. is_temporal (kind_at h)) (λ h. nat_eq h 6) 33 h refl l

plain : (ts : List Tree) (i : ℕ) (h : Head) (ns ps : List ℕ) → is_temporal (Plain h) ≡ false → numbers_fit (Plain h) ns (length ps) ≡ true → Reads ts i (Plain h) ns ps
plain ts i True ns ps t w = none ts i (Plain True) ns ps w (λ b. (refl, b))
plain ts i False ns ps t w = none ts i (Plain False) ns ps w (λ b. (refl, b))
plain ts i Num ns ps t w =
    let q = and_parts (nat_eq (length ns) 2) (nat_eq (length ps) 0) w in
    list2 (λ ns. Reads ts i (Plain Num) ns ps) ns (eqb-true _ _ q.0) (λ a c. list0 (Reads ts i (Plain Num) (a ∷ c ∷ [])) ps (eqb-true _ _ q.1) (λ b. (refl, b)))
plain ts i Str ns ps t w = list0 (Reads ts i (Plain Str) ns) ps (eqb-true _ _ (and_parts (is_text ns) (nat_eq (length ps) 0) w).1) (λ b. (refl, b))
plain ts i Boolean ns ps t w = none ts i (Plain Boolean) ns ps w (λ b. (refl, b))
plain ts i Not ns ps t w = one ts i (Plain Not) ns ps w (λ a b. (refl, b))
plain ts i And ns ps t w = two ts i (Plain And) ns ps w (λ a c b. (refl, b))
plain ts i Or ns ps t w = two ts i (Plain Or) ns ps w (λ a c b. (refl, b))
plain ts i Imp ns ps t w = two ts i (Plain Imp) ns ps w (λ a c b. (refl, b))
plain ts i Iff ns ps t w = two ts i (Plain Iff) ns ps w (λ a c b. (refl, b))
plain ts i Eq ns ps t w = two ts i (Plain Eq) ns ps w (λ a c b. (refl, b))
plain ts i In ns ps t w = two ts i (Plain In) ns ps w (λ a c b. (refl, b))
plain ts i Subseteq ns ps t w = two ts i (Plain Subseteq) ns ps w (λ a c b. (refl, b))
plain ts i Enum ns ps t w = λ b. ((λ j. node Enum (only (length ps) ns w j) (parts_of (sym (list_of-parts_of (picked ts ps)) j))), tt)
plain ts i Cup ns ps t w = two ts i (Plain Cup) ns ps w (λ a c b. (refl, b))
plain ts i Cap ns ps t w = two ts i (Plain Cap) ns ps w (λ a c b. (refl, b))
plain ts i Diff ns ps t w = two ts i (Plain Diff) ns ps w (λ a c b. (refl, b))
plain ts i Power ns ps t w = one ts i (Plain Power) ns ps w (λ a b. (refl, b))
plain ts i Union ns ps t w = one ts i (Plain Union) ns ps w (λ a b. (refl, b))
plain ts i FunSet ns ps t w = two ts i (Plain FunSet) ns ps w (λ a c b. (refl, b))
plain ts i Dom ns ps t w = one ts i (Plain Dom) ns ps w (λ a b. (refl, b))
plain ts i Apply ns ps t w = two ts i (Plain Apply) ns ps w (λ a c b. (refl, b))
plain ts i Except ns ps t w = three ts i (Plain Except) ns ps w (λ a c d b. (refl, b))
plain ts i Tuple ns ps t w = λ b. ((λ j. node Tuple (only (length ps) ns w j) (parts_of (sym (list_of-parts_of (picked ts ps)) j))), tt)
plain ts i If ns ps t w = three ts i (Plain If) ns ps w (λ a c d b. (refl, b))
plain ts i Temporal ns ps t w = cc

binding : (ts : List Tree) (i : ℕ) (h : Binder) (ns ps : List ℕ) → numbers_fit (Binding h) ns (length ps) ≡ true → Reads ts i (Binding h) ns ps
binding ts i All ns ps w = one ts i (Binding All) ns ps w (λ a b. (refl, b))
binding ts i Ex ns ps w = one ts i (Binding Ex) ns ps w (λ a b. (refl, b))
binding ts i Filter ns ps w = two ts i (Binding Filter) ns ps w (λ a c b. (refl, b))
binding ts i Image ns ps w = two ts i (Binding Image) ns ps w (λ a c b. (refl, b))
binding ts i Fun ns ps w = two ts i (Binding Fun) ns ps w (λ a c b. (refl, b))
binding ts i Choose ns ps w = one ts i (Binding Choose) ns ps w (λ a b. (refl, b))

variable : (ts : List Tree) (i : ℕ) (ns ps : List ℕ) → numbers_fit Bound ns (length ps) ≡ true → Reads ts i Bound ns ps
variable ts i ns ps w =
    let q = and_parts (nat_eq (length ns) 1) (nat_eq (length ps) 0) w in
    list1 (λ ns. Reads ts i Bound ns ps) ns (eqb-true _ _ q.0) (λ a. list0 (Reads ts i Bound (a ∷ [])) ps (eqb-true _ _ q.1) (λ b. (refl, b)))

first-at : (ns : List ℕ) → first ns ≡ get_or ns 0 0
first-at [] = refl
first-at (n ∷ ns) = refl

second-at : (ns : List ℕ) → first (after_first ns) ≡ get_or ns 1 0
second-at [] = refl
second-at (n ∷ ns) = first-at ns

reads : (ts : List Tree) (i h : ℕ) (ns ps : List ℕ) → node_fits h ns (length ps) ≡ true → AreBelow i ps → HasShape ts (make_kind (node_kind h ns) ns (picked ts ps)) (shape_over h ns ps) × AreBelow i (named_parts (shape_over h ns ps))
reads ts i h ns ps w b = go (nat_eq h 6) refl (node_numbers_fit h ns (length ps) w)
  where
    below : h < 33
    below = node_below h ns (length ps) w

    known : (k : RowKind) → kind_symbol k ≡ None → is_temporal k ≡ false → numbers_fit k ns (length ps) ≡ true → Reads ts i k ns ps
    known Bound e t w = variable ts i ns ps w
    known (Symbol f) e t w = cc
    known (Plain g) e t w = plain ts i g ns ps t w
    known (Binding g) e t w = binding ts i g ns ps w

    go : (six : Bool) → nat_eq h 6 ≡ six → (let k = cond six (Symbol (canon_sym (first ns) (first (after_first ns)))) (kind_at h) in numbers_fit k ns (length ps) ≡ true → (let s = cond six (shape.Symbol (get_or ns 0 0) (get_or ns 1 0)) (kind_shape (kind_at h) ns ps) in HasShape ts (make_kind k ns (picked ts ps)) s × AreBelow i (named_parts s)))
    go true e w = ((λ j. app (canon_sym (first-at ns j) (second-at ns j)) (parts_of (sym (list_of-parts_of (picked ts ps)) j))), tt)
    go false e w = known (kind_at h) (kind_at-symbol h (omega (arith, below))) (temporal_table h below ∙ e) w b

-- the tree at i has the form of its node
pub has_shape : (ts : List Tree) (i : ℕ) (n : Node) → HasNode ts i n → AreBelow i n.parts → HasShape ts (tree_at ts i) (shape_over n.head n.numbers n.parts)
has_shape ts i n h b = subst (λ t. HasShape ts t (shape_over n.head n.numbers n.parts)) (sym h.tree) (reads ts i n.head n.numbers n.parts (is_true _ h.node.0) b).0

pub shape_below : (ts : List Tree) (i : ℕ) (n : Node) → HasNode ts i n → AreBelow i n.parts → AreBelow i (named_parts (shape_over n.head n.numbers n.parts))
shape_below ts i n h b = (reads ts i n.head n.numbers n.parts (is_true _ h.node.0) b).1

shows : (ts : List Tree) (i : ℕ) (n : Node) → HasNode ts i n → ShowsNode n.head n.numbers (picked ts n.parts) (tree_at ts i)
shows ts i n h = subst (ShowsNode n.head n.numbers (picked ts n.parts)) (sym h.tree) (node-shows n.head n.numbers (picked ts n.parts) (fits-picked ts n h.node.0))

pub shown_head : (ts : List Tree) (i : ℕ) (n : Node) → HasNode ts i n → n.head ≡ kind_number (kind_of (tree_at ts i))
shown_head ts i n h = sym (shows ts i n h).head_is

pub head_small : (ts : List Tree) (i : ℕ) (n : Node) → HasNode ts i n → n.head < 33
head_small ts i n h = node_below n.head n.numbers (length n.parts) (is_true _ h.node.0)

pub shown_parts : (ts : List Tree) (i : ℕ) (n : Node) → HasNode ts i n → subtrees (tree_at ts i) ≡ picked ts n.parts
shown_parts ts i n h = (shows ts i n h).parts_are

-- the node of a form may stand in a bank, and has its tree
pub cell_fits : (s : Shape) (m : ℕ) → IsWhole s → AreBelow m (named_parts s) → IsNode (node_in (cell_of s)) m
unfolding kind_at kind_table
cell_fits (shape.Symbol i j) m w b = (ap (nat_eq 0) w, b)
cell_fits s m w b = (refl, b)

pub cell_tree : (ts : List Tree) (s : Shape) → tree_over ts (node_in (cell_of s)) ≡ tree_of ts s
unfolding kind_at kind_table
cell_tree ts shape.True = refl
cell_tree ts _ = refl

pub cell_made : (ts : List Tree) (s : Shape) (c : Cell) → c ≡ cell_of s → tree_over ts (node_in c) ≡ tree_of ts s
cell_made ts s c e = ap (λ c. tree_over ts (node_in c)) e ∙ cell_tree ts s

pub found_cell : (r : Option ℕ) (ts : List Tree) (s : Shape) (c : Cell) → c ≡ cell_of s → IfSome r (λ k. HasNode ts k (node_in c)) → IfSome r (λ k. HasTree ts k (tree_of ts s))
found_cell (Some k) ts s c e h = record { within = h.within; tree = h.tree ∙ cell_made ts s c e }
found_cell None ts s c e h = tt

pub missing_cell : (r : Option ℕ) (ts : List Tree) (s : Shape) (c : Cell) → c ≡ cell_of s → IsNode (node_in c) (length ts) → IfNone r ((k : ℕ) → HasNode ts k (node_in c) → ⊥) → IfNone r ((k : ℕ) → HasTree ts k (tree_of ts s) → ⊥)
missing_cell (Some k) ts s c e w h = tt
missing_cell None ts s c e w h = λ k t. h k (record { within = t.within; node = w; tree = t.tree ∙ sym (cell_made ts s c e) })
