-- Tests of grounds and of literals.
use Rattle.std.specs.Prelude.{◌≡◌, ℕ, ◌<◌, Bool, true, false, not, ◌&&◌, ◌+◌, drop, zero, suc, nat_eq, List, [], ◌∷◌, length}
use Rattle.std.proofs.Common.{get_or, refl, ap, sym, ◌∙◌, arith}
use Rattle.std.proofs.lemmas.List.{drop_more}
use Rattle.core_expr.specs.Tree.{Tree, true_, num_, str_}
use Rattle.core_expr.specs.Terms.{same, lists_equal}
use Rattle.core_expr.specs.Nodes.{AreBelow, picked}
use Rattle.seq_calculus.specs.Schemas.{are_apart}
use Rattle.search_definition.specs.Terms.{either}
use Rattle.search_definition.specs.Branches.{has}
use Rattle.term_bank.specs.Banks.{IsDistinct}
use Rattle.proof_trees.specs.Valued.{entries_of}
use Rattle.rule_proofs.specs.Values.{is_numeral, is_text}
use Rattle.rule_proofs.proofs.Numbers.{number_same}

never : true ≡ false → ⊥
never e = cc

-- two numerals, or two strings, are apart where they differ
not_equal : (x : Bool) → not x ≡ not (elim x [ true ↦ true | false ↦ false ])
not_equal true = refl
not_equal false = refl

pub apart_numerals : (x y : Tree) → is_numeral x ≡ true → are_apart x y ≡ (is_numeral y && not (same x y))
apart_numerals (num_ a b) (num_ c d) e = not_equal (lists_equal (a ∷ b ∷ []) (c ∷ d ∷ []))
apart_numerals (num_ a b) _ e = refl
apart_numerals _ y e = absurd (never (sym e))

pub apart_texts : (x y : Tree) → is_text x ≡ true → are_apart x y ≡ (is_text y && not (same x y))
apart_texts (str_ a) (str_ b) e = not_equal (lists_equal a b)
apart_texts (str_ a) _ e = refl
apart_texts _ y e = absurd (never (sym e))

pub apart_others : (x y : Tree) → is_numeral x ≡ false → is_text x ≡ false → are_apart x y ≡ false
apart_others (num_ a b) y p q = absurd (never p)
apart_others (str_ a) y p q = absurd (never q)
apart_others _ y p q = refl

-- one ground more
has_next : (ts : List Tree) (g f : ℕ) (gs : List ℕ) → IsDistinct ts → g < length ts → f < length ts → has (entries_of (picked ts (g ∷ gs))) (get_or ts f true_) ≡ either (nat_eq g f) (has (entries_of (picked ts gs)) (get_or ts f true_))
has_next ts g f gs d lg lf = ap (λ x. either x (has (entries_of (picked ts gs)) (get_or ts f true_))) (sym (number_same ts g f d lg lf))

pub has_at : (ts : List Tree) (gs : List ℕ) (i f d : ℕ) → IsDistinct ts → AreBelow (length ts) gs → f < length ts → i < length gs
    → has (entries_of (picked ts (drop i gs))) (get_or ts f true_) ≡ either (nat_eq (get_or gs i d) f) (has (entries_of (picked ts (drop (i + 1) gs))) (get_or ts f true_))
has_at ts gs i f d a b l h = ap (λ l. has (entries_of (picked ts l)) (get_or ts f true_)) (drop_more gs i d h) ∙ has_next ts (get_or gs i d) f (drop (i + 1) gs) a (below_at (length ts) gs i d b h) l
  where
    below_at : (n : ℕ) (gs : List ℕ) (i d : ℕ) → AreBelow n gs → i < length gs → get_or gs i d < n
    below_at n [] i d b h = absurd (omega arith)
    below_at n (g ∷ gs) zero d b h = b.0
    below_at n (g ∷ gs) (suc i) d b h = below_at n gs i d b.1 (omega arith)
