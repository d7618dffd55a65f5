-- First differences of prefix codes by indices.
use Rattle.std.specs.Prelude.{◌≡◌, ℕ, ◌<◌, Bool, List}
use Rattle.core_expr.specs.Tree.{Tree}
use Rattle.core_expr.specs.Terms.{code, list_less}
use Rattle.term_bank.specs.Banks.{tree_at}
use Rattle.term_order.specs.declared.codes.CodeStep.{CodeStep}
use Rattle.term_order.specs.declared.codes.CodeStep.TheVariants.{Less, Below}

-- which of the codes is less, whatever follows them
abbrev pub IsLess : List Tree → ℕ → ℕ → Bool → Type 0
IsLess ts i j b = (xs ys : List ℕ) → list_less (code (tree_at ts i) xs) (code (tree_at ts j) ys) ≡ b

-- the codes compare as those of the trees at p and q, with something after them
pub record ComparesAs (ts : List Tree) (i j p q : ℕ) (xs ys : List ℕ) : Type 0 where
  pub after_left : List ℕ
  pub after_right : List ℕ
  pub same : list_less (code (tree_at ts i) xs) (code (tree_at ts j) ys) ≡ list_less (code (tree_at ts p) after_left) (code (tree_at ts q) after_right)

-- a step to the first difference of the codes
abbrev pub IsCodeStep : List Tree → ℕ → ℕ → CodeStep → Type 0
IsCodeStep ts i j (Less b) = IsLess ts i j b
IsCodeStep ts i j (Below p q) = (p < i) × (q < j) × (p ≡ q → ⊥) × ((xs ys : List ℕ) → ComparesAs ts i j p q xs ys)
