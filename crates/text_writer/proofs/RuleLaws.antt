-- A step's rule is kept as the step has it.
use Rattle.std.proofs.Common.{◌≡◌, ℕ, zero, suc, ◌+◌, ◌<◌, Bool, true, cond, nat_eq, nat_lt, ◌&&◌, List, [], ◌∷◌, ◌++◌, length, get_or, take, drop, map, refl, ap, sym, ◌∙◌, subst, arith, eqb-true, append_assoc, length-append, length-drop, take-append-drop}
use Rattle.std.specs.Prelude.{IsTrue}
use Rattle.std.proofs.lemmas.Bool.{and_parts}
use Rattle.std.proofs.lemmas.Bool.Decides.{nat_tests}
use Rattle.std.proofs.lemmas.List.{length-take-le, get_or_at}
use Rattle.core_expr.specs.Tree.{Tree, true_}
use Rattle.seq_calculus.specs.declared.lists.ProofStep.{ProofStep}
use Rattle.seq_calculus.specs.Lists.{step_fits, expression_counts, premise_counts}
use Rattle.seq_calculus.specs.Steps.{Reading, readings, rule_of, operand, alone}
use Rattle.seq_calculus.specs.Calculus.Rule.{TrueR}
use Rattle.text_writer.specs.Proofs.{Kept, plain, kept}

-- a step with the rule r has these numbers and so many expressions
abbrev pub counts_fit : ℕ → List ℕ → ℕ → Bool
counts_fit r ns k =
    cond (nat_eq r 3) (nat_eq (length ns) 2 && nat_eq k (get_or ns 0 0 + get_or ns 1 0))
    (cond (nat_eq r 21) (nat_eq (length ns) 3 && nat_eq k (get_or ns 2 0)) (nat_eq (length ns) 0 && nat_eq k (get_or expression_counts r 0)))

abbrev pub kept_as : ℕ → List ℕ → List Tree → Kept
kept_as r ns es = record { rule = r; numbers = ns; exprs = es }

abbrev Row : ℕ → Reading → Type 0
Row r f = (ns : List ℕ) (es : List Tree) → counts_fit r ns (length es) ≡ true → kept (f ns es) ≡ kept_as r ns es

abbrev Rows : ℕ → List Reading → Type 0
Rows i [] = Unit {0}
Rows i (f ∷ fs) = Row i f × Rows (suc i) fs

row-at : (i : ℕ) (fs : List Reading) (k r : ℕ) (d : Reading) → Rows i fs → k < length fs → r ≡ i + k → Row r (get_or fs k d)
row-at i [] k r d h l e = absurd (omega arith)
row-at i (f ∷ fs) zero r d h l e = let z : i ≡ r = omega arith in subst (λ r. Row r f) z h.0
row-at i (f ∷ fs) (suc k) r d h l e = row-at (suc i) fs k r d h.1 (omega arith) (omega arith)

abbrev from : ℕ → ℕ → List ℕ
from i zero = []
from i (suc n) = i ∷ from (suc i) n

-- a list, item by item
listed : {A : Type 0} (d : A) (us xs : List A) (i : ℕ) → length us ≡ i → map (λ j. get_or (us ++ xs) j d) (from i (length xs)) ≡ xs
listed d us [] i e = refl
listed d us (x ∷ xs) i e =
    let r = ap (λ ys. map (λ j. get_or ys j d) (from (suc i) (length xs))) (sym (append_assoc us (x ∷ []) xs)) ∙ listed d (us ++ x ∷ []) xs (suc i) (omega (arith, length-append us (x ∷ []))) in
    λ j. get_or_at us x xs d i e j ∷ r j

first-ones : {A : Type 0} (d : A) (xs : List A) (n : ℕ) → nat_eq (length xs) n ≡ true → map (λ j. get_or xs j d) (from 0 n) ≡ xs
first-ones d xs n h = ap (λ n. map (λ j. get_or xs j d) (from 0 n)) (sym (eqb-true (length xs) n h)) ∙ listed d [] xs 0 refl

-- a rule without numbers and with n expressions
row : (r n : ℕ) (ns : List ℕ) (es : List Tree) → (nat_eq (length ns) 0 && nat_eq (length es) n) ≡ true → plain r (map (operand es) (from 0 n)) ≡ kept_as r ns es
row r n ns es h =
    let p = and_parts (nat_eq (length ns) 0) (nat_eq (length es) n) h in
    λ i. kept_as r (first-ones 0 ns 0 p.0 i) (first-ones true_ es n p.1 i)

row-lists : (ns : List ℕ) (es : List Tree) → (let a = get_or ns 0 0 in let b = get_or ns 1 0 in (nat_eq (length ns) 2 && nat_eq (length es) (a + b)) ≡ true
    → kept_as 3 (length (take a es) ∷ length (drop a es) ∷ []) (take a es ++ drop a es) ≡ kept_as 3 ns es)
row-lists ns es h =
    let a = get_or ns 0 0 in
    let b = get_or ns 1 0 in
    let p = and_parts (nat_eq (length ns) 2) (nat_eq (length es) (a + b)) h in
    let e = eqb-true (length es) (a + b) p.1 in
    let l : length (take a es) ≡ a = length-take-le a es (omega (arith, e)) in
    let r : length (drop a es) ≡ b = omega (arith, e, length-drop a es) in
    (λ i. kept_as 3 (l i ∷ r i ∷ []) (take-append-drop a es i)) ∙ ap (λ ns. kept_as 3 ns es) (first-ones 0 ns 2 p.0)

row-schema : (ns : List ℕ) (es : List Tree) → (nat_eq (length ns) 3 && nat_eq (length es) (get_or ns 2 0)) ≡ true
    → kept_as 21 (get_or ns 0 0 ∷ get_or ns 1 0 ∷ length es ∷ []) es ≡ kept_as 21 ns es
row-schema ns es h =
    let p = and_parts (nat_eq (length ns) 3) (nat_eq (length es) (get_or ns 2 0)) h in
    ap (λ n. kept_as 21 (get_or ns 0 0 ∷ get_or ns 1 0 ∷ n ∷ []) es) (eqb-true (length es) (get_or ns 2 0) p.1) ∙ ap (λ ns. kept_as 21 ns es) (first-ones 0 ns 3 p.0)

all-rows : (Rows 0 readings) × (length readings ≡ 22)
unfolding readings expression_counts
all-rows =
    ((row 0 1, (row 1 0, (row 2 0, (row-lists, (row 4 1, (row 5 1, (row 6 1, (row 7 2, (row 8 2, (row 9 2, (row 10 2, (row 11 2, (row 12 2, (row 13 2, (row 14 2, (row 15 2, (row 16 1, (row 17 1, (row 18 2, (row 19 1, (row 20 3, (row-schema, tt)))))))))))))))))))))), refl)

-- the rule that a step is read as is kept as the step has it
pub kept-step : (s : ProofStep) (es : List Tree) → IsTrue (step_fits s) → length es ≡ length s.exprs → kept (rule_of s.rule s.numbers es) ≡ kept_as s.rule s.numbers es
unfolding step_fits
kept-step s es h e =
    let p = and_parts (nat_lt s.rule 22 && nat_eq (length s.premises) (get_or premise_counts s.rule 0)) (counts_fit s.rule s.numbers (length s.exprs)) h in
    let q = and_parts (nat_lt s.rule 22) (nat_eq (length s.premises) (get_or premise_counts s.rule 0)) p.0 in
    row-at 0 readings s.rule s.rule (alone TrueR) all-rows.0 (below s.rule (length readings) q.0 all-rows.1) (omega arith) s.numbers es (ap (counts_fit s.rule s.numbers) e ∙ p.1)
  where
    below : (r n : ℕ) → nat_lt r 22 ≡ true → n ≡ 22 → r < n
    below r n l e = grind (arith, nat_tests)
