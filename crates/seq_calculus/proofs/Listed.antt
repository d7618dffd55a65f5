-- Steps of the loops over lists of expressions.
use Rattle.std.specs.Prelude.{◌≡◌, ℕ, zero, suc, ◌+◌, ◌-◌, ◌<◌, ◌≤◌, Bool, true, false, IsTrue, ◌↔◌, List, [], ◌∷◌, ◌++◌, length, take, drop}
use Rattle.std.proofs.Common.{refl, ap, sym, ◌∙◌, arith, get_or}
use Rattle.std.proofs.lemmas.Bool.{false≢true}
use Rattle.std.proofs.lemmas.List.{take_more, take_all, length-drop}
use Rattle.core_expr.specs.Tree.{Tree, eq_}
use Rattle.seq_calculus.specs.Schemas.{join_from, join, equals_each, equal_pairs}

-- what a test that answers no tells
pub not_from : (b : Bool) (P : Type 0) → (IsTrue b ↔ P) → b ≡ false → ¬ P
not_from b P w e p = false≢true (sym e ∙ w.1 p)

pub yes_from : (b : Bool) (P : Type 0) → (IsTrue b ↔ P) → b ≡ true → P
yes_from b P w e = w.0 e

-- one item more
pub take_step : (xs : List Tree) (i : ℕ) (x : Tree) → i < length xs → x ≡ get_or xs i x → take (i + 1) xs ≡ take i xs ++ x ∷ []
take_step xs i x h e = take_more xs i x h ∙ ap (λ (y : Tree). take i xs ++ y ∷ []) (sym e)

-- what follows the first n
pub slice_rest : (n : ℕ) (ps : List Tree) → take (length ps - n) (drop n ps) ≡ drop n ps
slice_rest n ps = take_all (length ps - n) (drop n ps) (omega (arith, length-drop n ps))

equals_each-more : (t : Tree) (xs : List Tree) (x : Tree) → equals_each t (xs ++ x ∷ []) ≡ equals_each t xs ++ eq_ t x ∷ []
equals_each-more t [] x = refl
equals_each-more t (y ∷ xs) x = ap (λ (l : List Tree). eq_ t y ∷ l) (equals_each-more t xs x)

pub equals_step : (t : Tree) (xs : List Tree) (i : ℕ) (x e : Tree) (old new : List Tree) → i < length xs → x ≡ get_or xs i x → old ≡ equals_each t (take i xs) → e ≡ eq_ t x → new ≡ old ++ e ∷ [] → new ≡ equals_each t (take (i + 1) xs)
equals_step t xs i x e old new h is inv q p =
    p ∙ (λ j. inv j ++ q j ∷ []) ∙ sym (equals_each-more t (take i xs) x) ∙ ap (equals_each t) (sym (take_step xs i x h is))

equal_pairs-more : (xs ys : List Tree) (x y : Tree) → length xs ≡ length ys → equal_pairs (xs ++ x ∷ []) (ys ++ y ∷ []) ≡ equal_pairs xs ys ++ eq_ x y ∷ []
equal_pairs-more [] [] x y h = refl
equal_pairs-more [] (b ∷ ys) x y h = absurd (omega arith)
equal_pairs-more (a ∷ xs) [] x y h = absurd (omega arith)
equal_pairs-more (a ∷ xs) (b ∷ ys) x y h = ap (λ (l : List Tree). eq_ a b ∷ l) (equal_pairs-more xs ys x y (omega arith))

take-lengths : (xs ys : List Tree) (i : ℕ) → length xs ≡ length ys → length (take i xs) ≡ length (take i ys)
take-lengths xs ys zero h = refl
take-lengths [] [] (suc i) h = refl
take-lengths [] (y ∷ ys) (suc i) h = absurd (omega arith)
take-lengths (x ∷ xs) [] (suc i) h = absurd (omega arith)
take-lengths (x ∷ xs) (y ∷ ys) (suc i) h = ap suc (take-lengths xs ys i (omega arith))

pub pairs_step : (xs ys : List Tree) (i : ℕ) (x y e : Tree) (old new : List Tree) → length xs ≡ length ys → i < length xs → x ≡ get_or xs i x → y ≡ get_or ys i y → old ≡ equal_pairs (take i xs) (take i ys) → e ≡ eq_ x y → new ≡ old ++ e ∷ [] → new ≡ equal_pairs (take (i + 1) xs) (take (i + 1) ys)
pairs_step xs ys i x y e old new l h ix iy inv q p =
    p ∙ (λ j. inv j ++ q j ∷ []) ∙ sym (equal_pairs-more (take i xs) (take i ys) x y (take-lengths xs ys i l))
    ∙ (λ j. equal_pairs (sym (take_step xs i x h ix) j) (sym (take_step ys i y (omega arith) iy) j))

pub pairs_all : (xs ys l : List Tree) (n : ℕ) → length xs ≡ length ys → length xs ≤ n → l ≡ equal_pairs (take n xs) (take n ys) → l ≡ equal_pairs xs ys
pairs_all xs ys l n h k e = e ∙ (λ j. equal_pairs (take_all n xs k j) (take_all n ys (omega arith) j))

pub equals_all : (t : Tree) (xs l : List Tree) (n : ℕ) → length xs ≤ n → l ≡ equals_each t (take n xs) → l ≡ equals_each t xs
equals_all t xs l n k e = e ∙ ap (equals_each t) (take_all n xs k)

module _ (op : Tree → Tree → Tree) where
  join_from-more : (x : Tree) (ys : List Tree) (y : Tree) → join_from op x (ys ++ y ∷ []) ≡ op (join_from op x ys) y
  join_from-more x [] y = refl
  join_from-more x (z ∷ ys) y = join_from-more (op x z) ys y

  pub join_step : (a : Tree) (xs : List Tree) (i : ℕ) (x old new : Tree) → i < length xs → x ≡ get_or xs i x → old ≡ join_from op a (take i xs) → new ≡ op old x → new ≡ join_from op a (take (i + 1) xs)
  join_step a xs i x old new h is inv p =
      p ∙ ap (λ (z : Tree). op z x) inv ∙ sym (join_from-more a (take i xs) x) ∙ ap (join_from op a) (sym (take_step xs i x h is))

  pub join_all : (none a r : Tree) (xs : List Tree) (n : ℕ) → length xs ≤ n → r ≡ join_from op a (take n xs) → r ≡ join op none (a ∷ xs)
  join_all none a r xs n k e = e ∙ ap (join_from op a) (take_all n xs k)
