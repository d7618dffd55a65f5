-- Tables of forms that are put into a bank form by form.
use Rattle.std.proofs.Common.{◌≡◌, ℕ, zero, suc, ◌+◌, ◌-◌, ◌<◌, true, nat_lt, List, [], ◌∷◌, ◌++◌, length, get_or, drop, refl, ap, sym, ◌∙◌, arith, subst}
use Rattle.std.proofs.lemmas.List.{drop_more, length_push}
use Rattle.std.proofs.lemmas.Bool.{and_parts, eqb-true}
use Rattle.std.proofs.lemmas.Bool.Decides.{nat_tests}
use Rattle.core_expr.specs.Tree.{Tree}
use Rattle.core_expr.specs.Heads.{back}
use Rattle.core_expr.specs.Nodes.{AreBelow, IsNode, node_make, picked, tree_over}
use Rattle.term_bank.specs.Banks.{Extends, HasTree, tree_at}
use Rattle.term_bank.proofs.TableLaws.{AreBelow-more, AreBelow-at, back-picked}
use Rattle.term_bank.proofs.InternLaws.{picked-append, AreBelow-append}
use Rattle.term_shapes.specs.declared.cell.Cell.{Cell}
use Rattle.term_shapes.specs.declared.cell.Cell.TheVariants.{Leaf, Numbered, Paired, One, Two, Three}
use Rattle.term_shapes.specs.declared.shape.Shape.{Shape}
use Rattle.term_shapes.specs.declared.shape.Shape.TheVariants as shape
use Rattle.term_shapes.specs.Shapes.{tree_of, IsWhole, node_in, cell_of, named_parts}
use Rattle.term_shapes.specs.Forms.{are_below, is_whole, is_form, are_forms, grown, cell_over, IsTable, ArePlaced}
use Rattle.term_shapes.proofs.Extending.{longer, picked-same}
use Rattle.term_shapes.proofs.ShapeLaws.{cell_fits, cell_tree}

pub are-below : (n : ℕ) (is : List ℕ) → are_below n is ≡ true → AreBelow n is
are-below n [] w = tt
are-below n (i ∷ is) w = let q = and_parts (nat_lt i n) (are_below n is) w in let l : nat_lt i n ≡ true = q.0 in (grind (arith, nat_tests), are-below n is q.1)

whole : (s : Shape) → is_whole s ≡ true → IsWhole s
whole (shape.Symbol i j) w = eqb-true j 0 w
whole shape.True w = tt
whole _ w = tt

pub form_node : (n : ℕ) (s : Shape) → is_form n s ≡ true → IsNode (node_in (cell_of s)) n
form_node n s w = let q = and_parts (are_below n (named_parts s)) (is_whole s) w in cell_fits s n (whole s q.1) (are-below n (named_parts s) q.0)

pub picked-at : (ts : List Tree) (is : List ℕ) (i : ℕ) → i < length is → tree_at ts (get_or is i 0) ≡ tree_at (picked ts is) i
picked-at ts [] i l = absurd (omega arith)
picked-at ts (x ∷ is) zero l = refl
picked-at ts (x ∷ is) (suc i) l = picked-at ts is i (omega arith)

-- a cell over indices is the cell over the trees at them
pub over_node : (n : ℕ) (is : List ℕ) (c : Cell) → AreBelow n is → IsNode (node_in c) (length is) → IsNode (node_in (cell_over is c)) n
over_node n is (Leaf h) b w = w
over_node n is (Numbered h i) b w = w
over_node n is (Paired h i j) b w = w
over_node n is (One h a) b w = (w.0, (AreBelow-at n is a b w.1.0, tt))
over_node n is (Two h a c) b w = (w.0, (AreBelow-at n is a b w.1.0, (AreBelow-at n is c b w.1.1.0, tt)))
over_node n is (Three h a c d) b w = (w.0, (AreBelow-at n is a b w.1.0, (AreBelow-at n is c b w.1.1.0, (AreBelow-at n is d b w.1.1.1.0, tt))))

pub over_tree : (ts : List Tree) (is : List ℕ) (c : Cell) → IsNode (node_in c) (length is) → tree_over ts (node_in (cell_over is c)) ≡ tree_over (picked ts is) (node_in c)
over_tree ts is (Leaf h) w = refl
over_tree ts is (Numbered h i) w = refl
over_tree ts is (Paired h i j) w = refl
over_tree ts is (One h a) w = λ k. node_make h [] (picked-at ts is a w.1.0 k ∷ [])
over_tree ts is (Two h a b) w = λ k. node_make h [] (picked-at ts is a w.1.0 k ∷ picked-at ts is b w.1.1.0 k ∷ [])
over_tree ts is (Three h a b c) w = λ k. node_make h [] (picked-at ts is a w.1.0 k ∷ picked-at ts is b w.1.1.0 k ∷ picked-at ts is c w.1.1.1.0 k ∷ [])

pub form_tree : (ts : List Tree) (is : List ℕ) (s : Shape) (c d : Cell) → c ≡ cell_of s → d ≡ cell_over is c → is_form (length is) s ≡ true → tree_over ts (node_in d) ≡ tree_of (picked ts is) s
form_tree ts is s c d e f w = ap (λ d. tree_over ts (node_in d)) (f ∙ ap (cell_over is) e) ∙ over_tree ts is (cell_of s) (form_node (length is) s w) ∙ cell_tree (picked ts is) s

pub table_begins : (ts : List Tree) (places : List ℕ) (ss : List Shape) → AreBelow (length ts) places → are_forms (length places) ss ≡ true → IsTable ts places ss (grown (picked ts places) ss)
table_begins ts places ss b a = record { below = b; forms = a; trees = refl }

pub table_next : (ts : List Tree) (places : List ℕ) (ss : List Shape) (i : ℕ) (s : Shape) (table : List Tree) → i < length ss → IsTable ts places (drop i ss) table → IsTable ts places (get_or ss i s ∷ drop (i + 1) ss) table
table_next ts places ss i s table l a = subst (λ us. IsTable ts places us table) (drop_more ss i s l) a

pub table_form : (ts : List Tree) (places : List ℕ) (s : Shape) (ss : List Shape) (table : List Tree) → IsTable ts places (s ∷ ss) table → is_form (length places) s ≡ true
table_form ts places s ss table a = (and_parts (is_form (length places) s) (are_forms (suc (length places)) ss) a.forms).0

pub table_step : (ts ts' : List Tree) (places places' : List ℕ) (k : ℕ) (s : Shape) (ss : List Shape) (table : List Tree) → Extends ts ts' → IsTable ts places (s ∷ ss) table → HasTree ts' k (tree_of (picked ts places) s) → places' ≡ places ++ k ∷ [] → IsTable ts' places' ss table
table_step ts ts' places places' k s ss table x a h e =
    rw e (record {
      below = AreBelow-append (length ts') places (k ∷ []) (AreBelow-more (length ts) (length ts') places (longer ts ts' x) a.below) (h.within, tt);
      forms = let l : suc (length places) ≡ length (places ++ k ∷ []) = omega (arith, length_push places k) in subst (λ m. are_forms m ss ≡ true) l (and_parts (is_form (length places) s) (are_forms (suc (length places)) ss) a.forms).1;
      trees = ap (λ us. grown us ss) (picked-append ts' places (k ∷ []) ∙ (λ i. picked-same ts ts' places x a.below i ++ h.tree i ∷ [])) ∙ a.trees;
    })

-- the last place of a whole table
pub table_ends : (ts : List Tree) (places : List ℕ) (table : List Tree) (k : ℕ) → ArePlaced ts table places → 0 < length places → k ≡ get_or places (length places - 1) 0 → HasTree ts k (back table)
table_ends ts places table k a l e =
    rw e (record {
      within = AreBelow-at (length ts) places (length places - 1) a.below (omega arith);
      tree = sym (back-picked ts places l) ∙ ap back a.trees;
    })
