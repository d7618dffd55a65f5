-- The ending of a word, and texts that are equal.
use Rattle.std.specs.Prelude.{◌≡◌, ◌≢◌, ℕ, ◌+◌, Bool, true, false, ◌&&◌, List, [], ◌∷◌, ◌++◌, length, codes}
use Rattle.std.proofs.Common.{refl, ap, ◌∙◌, arith, eqb, length-append}
use Rattle.std.specs.Cmp.Lexicographic.{pointwise}
use Rattle.core_expr.specs.Terms.{lists_equal}
use Rattle.core_expr.proofs.Equal.{lists-same}
use Rattle.command_words.specs.Requests.{without_ending}

longer : (c : ℕ) (cs : List ℕ) (b : Bool) → lists_equal (c ∷ (cs ++ codes ".tla")) (codes ".tla") ≡ b → b ≡ false
longer c cs true e =
    let same : c ∷ (cs ++ codes ".tla") ≡ codes ".tla" = lists-same (c ∷ (cs ++ codes ".tla")) (codes ".tla") e in
    let long : length (c ∷ (cs ++ codes ".tla")) ≡ 4 = ap length same in
    let sum : length (cs ++ codes ".tla") ≡ length cs + 4 = length-append cs (codes ".tla") in
    absurd (omega arith)
longer c cs false e = refl

pub ending_there : (front : List ℕ) → without_ending (front ++ codes ".tla") ≡ front
ending_there [] = refl
ending_there (c ∷ cs) =
    ap (λ b. elim b [ true ↦ [] | false ↦ c ∷ without_ending (cs ++ codes ".tla") ]) (longer c cs (lists_equal (c ∷ (cs ++ codes ".tla")) (codes ".tla")) refl)
    ∙ ap (λ l. c ∷ l) (ending_there cs)

pub ending_absent : (word : List ℕ) → ((front : List ℕ) → word ≢ front ++ codes ".tla") → without_ending word ≡ word
ending_absent [] h = refl
ending_absent (c ∷ cs) h =
    go (lists_equal (c ∷ cs) (codes ".tla")) refl (ending_absent cs (λ front q. h (c ∷ front) (ap (λ l. c ∷ l) q)))
  where
    go : (b : Bool) → lists_equal (c ∷ cs) (codes ".tla") ≡ b → without_ending cs ≡ cs → elim b [ true ↦ [] | false ↦ c ∷ without_ending cs ] ≡ c ∷ cs
    go true e same = absurd (h [] (lists-same (c ∷ cs) (codes ".tla") e))
    go false e same = ap (λ l. c ∷ l) same

-- the test of `==` on texts, number by number
both_tests : (b c d : Bool) → c ≡ d → (b && c) ≡ elim b [ true ↦ d | false ↦ false ]
both_tests true c d e = e
both_tests false c d e = refl

pub texts_equal : (xs ys : List ℕ) → pointwise eqb xs ys ≡ lists_equal xs ys
texts_equal [] [] = refl
texts_equal [] (y ∷ ys) = refl
texts_equal (x ∷ xs) [] = refl
texts_equal (x ∷ xs) (y ∷ ys) = both_tests (eqb x y) (pointwise eqb xs ys) (lists_equal xs ys) (texts_equal xs ys)
