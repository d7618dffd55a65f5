-- Partners of a formula by their places.
use Rattle.std.proofs.Common.{◌≡◌, ℕ, zero, suc, ◌<◌, ◌≤◌, Bool, true, false, nat_lt, Option, Some, None, List, [], ◌∷◌, length, refl, ap, ◌∙◌, arith}
use Rattle.std.specs.Prelude.{IfSome}
use Rattle.std.proofs.lemmas.Bool.Decides.{nat_tests}
use Rattle.core_expr.specs.Tree.{Tree}
use Rattle.term_bank.specs.Banks.{tree_at}
use Rattle.search_definition.specs.declared.rule.Clash.{Clash}
use Rattle.search_definition.specs.Terms.{if_so, either, when, or_else, first_some}
use Rattle.search_definition.specs.Branches.{Closing, partner}
use Rattle.formula_rules.specs.Answers.{names}
use Rattle.branch_state.specs.Shown.{Placed}
use Rattle.tableau_search.specs.Entries.{AreKnown}
use Rattle.tableau_search.proofs.LiftLaws.{known_at}
use Rattle.equation_ranks.specs.Partners.{number_at, is_either, IsOldest, older_of, formula_at, older, paired}

-- one of two tests

either_false : (x y : Bool) → x ≡ false → y ≡ false → either x y ≡ false
either_false true y e f = cc
either_false false y e f = f

either_left : (x y : Bool) → x ≡ true → either x y ≡ true
either_left x y e = ap (λ b. either b y) e

either_right : (x y : Bool) → y ≡ true → either x y ≡ true
either_right true y e = refl
either_right false y e = e

-- the older of two is the oldest with either
pub oldest_either : (p q : ℕ → Bool) (i : ℕ) (a b : Option ℕ) → IsOldest p i a → IsOldest q i b → IsOldest (λ k. either (p k) (q k)) i (older_of a b)
oldest_either p q i None None g h = λ k l. either_false (p k) (q k) (g k l) (h k l)
oldest_either p q i None (Some m) g h = (h.0, either_right (p m) (q m) h.1, λ k l. either_false (p k) (q k) (g k (omega (arith, l, h.0))) (h.2 k l))
oldest_either p q i (Some m) None g h = (g.0, either_left (p m) (q m) g.1, λ k l. either_false (p k) (q k) (g.2 k l) (h k (omega (arith, l, g.0))))
oldest_either p q i (Some m) (Some n) g h = go (nat_lt m n) refl
  where
    go : (b : Bool) → nat_lt m n ≡ b → IsOldest (λ k. either (p k) (q k)) i (Some (if_so b m n))
    go true e =
        let r : m < n = less m n e in
        (g.0, either_left (p m) (q m) g.1, λ k l. either_false (p k) (q k) (g.2 k l) (h.2 k (omega (arith, l, r))))
      where
        less : (m n : ℕ) → nat_lt m n ≡ true → m < n
        less m n e = grind (arith, nat_tests)
    go false e =
        let r : n ≤ m = more m n e in
        (h.0, either_right (p n) (q n) h.1, λ k l. either_false (p k) (q k) (g.2 k (omega (arith, l, r))) (h.2 k l))
      where
        more : (m n : ℕ) → nat_lt m n ≡ false → n ≤ m
        more m n e = grind (arith, nat_tests)

pub oldest_within : (p : ℕ → Bool) (i n : ℕ) (o : Option ℕ) → IsOldest p i o → i ≤ n → IfSome o (λ j. j < n)
oldest_within p i n None h l = tt
oldest_within p i n (Some j) h l = omega (arith, h.0)

-- first answers at the older entries

module _ {B : Type 0} (g : Tree → Option B) (ts : List Tree) where
  none_older : (es : List Placed) (i : ℕ) → ((k : ℕ) → k < i → k < length es → g (formula_at ts es k) ≡ None) → first_some g (older ts es i) ≡ None
  none_older [] zero h = refl
  none_older [] (suc i) h = refl
  none_older (e ∷ es) zero h = refl
  none_older (e ∷ es) (suc i) h =
      ap (λ o. or_else o (first_some g (older ts es i))) (h 0 (omega arith) (omega arith))
      ∙ none_older es i (λ k l m. h (suc k) (omega arith) (omega arith))

  some_older : (es : List Placed) (i j : ℕ) (v : B) → j < i → j < length es → ((k : ℕ) → k < j → g (formula_at ts es k) ≡ None) → g (formula_at ts es j) ≡ Some v → first_some g (older ts es i) ≡ Some v
  some_older [] i j v l m h e = absurd (omega arith)
  some_older (x ∷ es) zero j v l m h e = absurd (omega arith)
  some_older (x ∷ es) (suc i) zero v l m h e = ap (λ o. or_else o (first_some g (older ts es i))) e
  some_older (x ∷ es) (suc i) (suc j) v l m h e =
      ap (λ o. or_else o (first_some g (older ts es i))) (h 0 (omega arith))
      ∙ some_older es i j v (omega arith) (omega arith) (λ k n. h (suc k) (omega arith)) e

-- the closing with the oldest partner, by the places of the formulas that clash with f
pub partner_found : (ts : List Tree) (es : List Placed) (c : Clash) (test : Tree → Tree → Bool) (f i : ℕ) (a b o : Option ℕ) → AreKnown (length ts) es → i ≤ length es
    → ((g : ℕ) → g < length ts → test (tree_at ts f) (tree_at ts g) ≡ names a g) → ((g : ℕ) → g < length ts → test (tree_at ts g) (tree_at ts f) ≡ names b g) → IsOldest (is_either a b es) i o
    → first_some (partner c test (tree_at ts f)) (older ts es i) ≡ paired c ts es f o
partner_found ts es c test f i a b o w l p q h = go o h
  where
    with_entry : ℕ → Closing
    with_entry k = record { clash = c; entries = tree_at ts f ∷ formula_at ts es k ∷ [] }

    at : (k : ℕ) → k < length es → partner c test (tree_at ts f) (formula_at ts es k) ≡ when (is_either a b es k) (with_entry k)
    at k m = let n = known_at (length ts) es k w m in λ i. when (either (p (number_at es k) n i) (q (number_at es k) n i)) (with_entry k)

    go : (o : Option ℕ) → IsOldest (is_either a b es) i o → first_some (partner c test (tree_at ts f)) (older ts es i) ≡ paired c ts es f o
    go None h = none_older (partner c test (tree_at ts f)) ts es i (λ k m n. at k n ∙ ap (λ x. when x (with_entry k)) (h k m))
    go (Some j) h =
        let m : j < length es = omega (arith, h.0, l) in
        some_older (partner c test (tree_at ts f)) ts es i j (with_entry j) h.0 m (λ k n. at k (omega (arith, n, m)) ∙ ap (λ x. when x (with_entry k)) (h.2 k n)) (at j m ∙ ap (λ x. when x (with_entry j)) h.1)
