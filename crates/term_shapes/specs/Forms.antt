-- Terms as tables of forms, each over the places of what stands before it.
use Rattle.std.specs.Prelude.{◌≡◌, ℕ, suc, Bool, true, ◌&&◌, nat_lt, nat_eq, List, [], ◌∷◌, ◌++◌, length}
use Rattle.std.proofs.Common.{get_or}
use Rattle.core_expr.specs.Tree.{Tree}
use Rattle.core_expr.specs.Heads.{back}
use Rattle.core_expr.specs.Nodes.{AreBelow, picked}
use Rattle.term_shapes.specs.declared.cell.Cell.{Cell}
use Rattle.term_shapes.specs.declared.cell.Cell.TheVariants.{One, Two, Three}
use Rattle.term_shapes.specs.declared.shape.Shape.{Shape}
use Rattle.term_shapes.specs.declared.shape.Shape.TheVariants as shape
use Rattle.term_shapes.specs.Shapes.{tree_of, named_parts}

abbrev pub are_below : ℕ → List ℕ → Bool
are_below n [] = true
are_below n (i ∷ is) = nat_lt i n && are_below n is

abbrev pub is_whole : Shape → Bool
is_whole (shape.Symbol i j) = nat_eq j 0
is_whole _ = true

-- a form over n places
abbrev pub is_form : ℕ → Shape → Bool
is_form n s = are_below n (named_parts s) && is_whole s

-- forms, each over the n places and those of the forms before it
abbrev pub are_forms : ℕ → List Shape → Bool
are_forms n [] = true
are_forms n (s ∷ ss) = is_form n s && are_forms (suc n) ss

-- these trees, and then those of the forms, each over all before it
abbrev pub grown : List Tree → List Shape → List Tree
grown ts [] = ts
grown ts (s ∷ ss) = grown (ts ++ tree_of ts s ∷ []) ss

-- the last of the trees of the forms
abbrev pub built : List Tree → List Shape → Tree
built ts ss = back (grown ts ss)

-- the cell over the indices at its places
abbrev pub cell_over : List ℕ → Cell → Cell
cell_over is (One h a) = One h (get_or is a 0)
cell_over is (Two h a b) = Two h (get_or is a 0) (get_or is b 0)
cell_over is (Three h a b c) = Three h (get_or is a 0) (get_or is b 0) (get_or is c 0)
cell_over is c = c

-- the trees of the first forms stand at these places, and the others are left
pub record IsTable (ts : List Tree) (places : List ℕ) (ss : List Shape) (table : List Tree) : Type 0 where
  pub below : AreBelow (length ts) places
  pub forms : are_forms (length places) ss ≡ true
  pub trees : grown (picked ts places) ss ≡ table

-- the trees of a table stand at these places
pub record ArePlaced (ts table : List Tree) (places : List ℕ) : Type 0 where
  pub below : AreBelow (length ts) places
  pub trees : picked ts places ≡ table
