-- The rows of sets and tuples that are written out.
use Rattle.std.specs.Prelude.{◌≡◌, ℕ, zero, suc, ◌+◌, ◌-◌, ◌<◌, ◌≤◌, true, false, nat_le, nat_eq, Option, Some, None, List, [], ◌∷◌, length, take, drop}
use Rattle.std.proofs.Common.{refl, ap, sym, ◌∙◌, arith, get_or}
use Rattle.std.proofs.lemmas.Bool.Decides.{nat_tests}
use Rattle.std.proofs.lemmas.List.{length-take, length-drop}
use Rattle.core_expr.specs.Tree.{Tree}
use Rattle.seq_calculus.specs.Schemas.{nth, about_nth, about_enumeration, about_tuples, about_entry, if_closed, row1, row20, row21}

-- the parameters of a set whose elements are listed: the term, and the elements
pub enumeration_row : (es : List Tree) (x : Tree) → 0 < length es → x ≡ get_or es 0 x → row1 0 es ≡ Some (about_enumeration x (drop 1 es))
enumeration_row [] x h e = absurd (omega arith)
enumeration_row (t ∷ es) x h e = ap (λ y. Some (about_enumeration y es)) (sym e)

pub enumeration_none : (es : List Tree) → length es ≡ 0 → if_closed (row1 0 es) ≡ None
enumeration_none [] h = refl
enumeration_none (t ∷ es) h = absurd (omega arith)

-- two tuples
halves : (z n l r : ℕ) → z ≤ n → l ≡ z → r ≡ n - z → nat_eq (z + z) n ≡ nat_eq l r
halves z n l r h p q = grind (arith, nat_tests)

split_lengths : (z : ℕ) (es : List Tree) → z ≤ length es → nat_eq (z + z) (length es) ≡ nat_eq (length (take z es)) (length (drop z es))
split_lengths z es h = halves z (length es) (length (take z es)) (length (drop z es)) h (omega (arith, length-take z es)) (omega (arith, length-drop z es))

le-true : (z n : ℕ) → z ≤ n → nat_le z n ≡ true
le-true z n h = grind (arith, nat_tests)

le-false : (z n : ℕ) → n < z → nat_le z n ≡ false
le-false z n h = grind (arith, nat_tests)

pub tuples_row : (z : ℕ) (es : List Tree) → z ≤ length es → row20 z es ≡ Some (about_tuples (take z es) (drop z es))
tuples_row z es h = rw (le-true z (length es) h, split_lengths z es h) refl

pub tuples_past : (z : ℕ) (es : List Tree) → length es < z → if_closed (row20 z es) ≡ None
tuples_past z es h = rw (le-false z (length es) h) refl

-- an entry of a tuple
nth-some : (es : List Tree) (j : ℕ) (x : Tree) → j < length es → x ≡ get_or es j x → nth es j ≡ Some x
nth-some [] j x h e = absurd (omega arith)
nth-some (y ∷ es) zero x h e = ap Some (sym e)
nth-some (y ∷ es) (suc j) x h e = nth-some es j x (omega arith) e

nth-past : (es : List Tree) (j : ℕ) → length es ≤ j → nth es j ≡ None
nth-past [] j h = refl
nth-past (y ∷ es) zero h = absurd (omega arith)
nth-past (y ∷ es) (suc j) h = nth-past es j (omega arith)

pub entry_past : (z : ℕ) (es : List Tree) → length es < z → if_closed (row21 z es) ≡ None
entry_past zero es h = refl
entry_past (suc z) es h = ap (λ (o : Option Tree). if_closed (about_nth es (suc z) o)) (nth-past es z (omega arith))

pub entry_row : (z : ℕ) (es : List Tree) (x : Tree) → ¬ (z ≡ 0) → z ≤ length es → x ≡ get_or es (z - 1) x → row21 z es ≡ Some (about_entry es z x)
entry_row zero es x n h e = absurd (n refl)
entry_row (suc z) es x n h e =
    let i : suc z - 1 ≡ z = omega arith in ap (λ (o : Option Tree). about_nth es (suc z) o) (nth-some es z x (omega arith) (e ∙ ap (λ (j : ℕ). get_or es j x) i))
