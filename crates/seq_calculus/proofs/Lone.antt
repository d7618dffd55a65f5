-- Literals are known by their roots.
use Rattle.std.specs.Prelude.{◌≡◌, ℕ, Bool, true, false, not, IsTrue, ◌↔◌, nat_eq, List, [], ◌∷◌, length}
use Rattle.std.proofs.Common.{refl, ap, sym, ◌∙◌, subst, arith}
use Rattle.std.proofs.lemmas.Bool.Decides.{nat_tests}
use Rattle.std.proofs.lemmas.Bool.{false≢true, and_parts}
use Rattle.core_expr.specs.declared.head.Head.TheVariants.{Num, Str}
use Rattle.core_expr.specs.declared.row.RowKind.{RowKind}
use Rattle.core_expr.specs.declared.row.RowKind.TheVariants.{Plain}
use Rattle.core_expr.specs.Tree.{Tree, Parts, size, num_, str_}
use Rattle.core_expr.specs.Tree.Tree.{bound, app, node, bind}
use Rattle.core_expr.specs.Tree.Parts.{end, part}
use Rattle.core_expr.specs.Terms.{lists_equal}
use Rattle.core_expr.specs.Places.{kind_of}
use Rattle.core_expr.specs.Heads.{plain_fits, table_numbers, is_text, are_well_formed, IsWellFormed}
use Rattle.core_expr.proofs.Equal.{lists-same, lists-refl}
use Rattle.seq_calculus.specs.Schemas.{are_apart}
use Rattle.seq_calculus.specs.Literals.{is_literal}

no-parts : (ps : Parts) → nat_eq (size ps) 0 ≡ true → ps ≡ end
no-parts end h = refl
no-parts (part e ps) h = absurd (grind (arith, nat_tests))

two-numbers : (ns : List ℕ) → nat_eq (length ns) 2 ≡ true → (a : ℕ) × (b : ℕ) × (ns ≡ a ∷ b ∷ [])
two-numbers [] h = cc
two-numbers (a ∷ []) h = cc
two-numbers (a ∷ b ∷ []) h = (a, b, refl)
two-numbers (a ∷ b ∷ c ∷ ns) h = absurd (grind (arith, nat_tests))

number-of : (t : Tree) → IsWellFormed t → kind_of t ≡ Plain Num → (a : ℕ) × (b : ℕ) × (t ≡ num_ a b)
number-of (bound i) w e = cc
number-of (app f ps) w e = cc
number-of (bind b ps u) w e = cc
number-of (node h ns ps) w e =
    let q : h ≡ Num = cc in
    let v = and_parts (plain_fits Num ns (size ps)) (are_well_formed ps) (subst (λ h. IsWellFormed (node h ns ps)) q w) in
    let f = and_parts (nat_eq (length ns) 2) (nat_eq (size ps) 0) v.0 in
    let m : (a : ℕ) × (b : ℕ) × (ns ≡ a ∷ b ∷ []) = two-numbers ns f.0 in
    (m.0, m.1, λ i. node (q i) (m.2 i) (no-parts ps f.1 i))

string-of : (t : Tree) → IsWellFormed t → kind_of t ≡ Plain Str → (s : List ℕ) × (t ≡ str_ s)
string-of (bound i) w e = cc
string-of (app f ps) w e = cc
string-of (bind b ps u) w e = cc
string-of (node h ns ps) w e =
    let q : h ≡ Str = cc in
    let v = and_parts (plain_fits Str (table_numbers Str ns (size ps)) (size ps)) (are_well_formed ps) (subst (λ h. IsWellFormed (node h ns ps)) q w) in
    let f = and_parts (is_text (table_numbers Str ns (size ps))) (nat_eq (size ps) 0) v.0 in
    (ns, λ i. node (q i) ns (no-parts ps f.1 i))

not-equal : (xs ys : List ℕ) → ¬ (xs ≡ ys) → not (lists_equal xs ys) ≡ true
not-equal xs ys n = go (lists_equal xs ys) refl
  where
    go : (b : Bool) → lists_equal xs ys ≡ b → not b ≡ true
    go true e = absurd (n (lists-same xs ys e))
    go false e = refl

apart-numbers : (a b c d : ℕ) → ¬ (num_ a b ≡ num_ c d) → are_apart (num_ a b) (num_ c d) ≡ true
apart-numbers a b c d n = not-equal (a ∷ b ∷ []) (c ∷ d ∷ []) (λ e. n (ap (λ (l : List ℕ). node Num l end) e))

apart-strings : (r s : List ℕ) → ¬ (str_ r ≡ str_ s) → are_apart (str_ r) (str_ s) ≡ true
apart-strings r s n = not-equal r s (λ e. n (ap (λ (l : List ℕ). node Str l end) e))

-- two literals of one kind that differ are apart
apart_true : (l m : Tree) → IsWellFormed l → IsWellFormed m → is_literal (kind_of l) ≡ true → kind_of m ≡ kind_of l → ¬ (l ≡ m) → are_apart l m ≡ true
apart_true l m w v = go (kind_of l) refl
  where
    numbers : kind_of l ≡ Plain Num → kind_of m ≡ Plain Num → ¬ (l ≡ m) → are_apart l m ≡ true
    numbers e k n =
        let a : (a : ℕ) × (b : ℕ) × (l ≡ num_ a b) = number-of l w e in
        let b : (a : ℕ) × (b : ℕ) × (m ≡ num_ a b) = number-of m v k in
        (λ i. are_apart (a.2 i) (b.2 i)) ∙ apart-numbers a.0 a.1 b.0 b.1 (λ q. n (a.2 ∙ q ∙ sym b.2))

    strings : kind_of l ≡ Plain Str → kind_of m ≡ Plain Str → ¬ (l ≡ m) → are_apart l m ≡ true
    strings e k n =
        let a : (s : List ℕ) × (l ≡ str_ s) = string-of l w e in
        let b : (s : List ℕ) × (m ≡ str_ s) = string-of m v k in
        (λ i. are_apart (a.1 i) (b.1 i)) ∙ apart-strings a.0 b.0 (λ q. n (a.1 ∙ q ∙ sym b.1))

    go : (k : RowKind) → kind_of l ≡ k → is_literal k ≡ true → kind_of m ≡ k → ¬ (l ≡ m) → are_apart l m ≡ true
    go (Plain Num) e h k n = numbers e k n
    go (Plain Str) e h k n = strings e k n
    go _ e h k n = cc

apart-itself : (t : Tree) → are_apart t t ≡ true → ⊥
apart-itself (num_ a b) e = false≢true (sym (ap not (lists-refl (a ∷ b ∷ []))) ∙ e)
apart-itself (str_ s) e = false≢true (sym (ap not (lists-refl s)) ∙ e)
apart-itself _ e = cc

-- and what is apart is such
pub apart_differs : (l m : Tree) → are_apart l m ≡ true → ¬ (l ≡ m)
apart_differs l m e q = apart-itself m (ap (λ (t : Tree). are_apart t m) (sym q) ∙ e)

apart_kinds : (l m : Tree) → are_apart l m ≡ true → (is_literal (kind_of l) ≡ true) × (kind_of m ≡ kind_of l)
apart_kinds (num_ a b) (num_ c d) e = (refl, refl)
apart_kinds (str_ a) (str_ b) e = (refl, refl)
apart_kinds _ _ e = cc

-- the tests of the roots, then that of equality
pub apart_other : (l m : Tree) → is_literal (kind_of l) ≡ false → IsTrue false ↔ (are_apart l m ≡ true)
apart_other l m e = (λ k. absurd (false≢true k), λ k. absurd (false≢true (sym e ∙ (apart_kinds l m k).0)))

pub apart_tested : (l m : Tree) (b : Bool) → IsWellFormed l → IsWellFormed m → is_literal (kind_of l) ≡ true → kind_of m ≡ kind_of l → (IsTrue b ↔ (l ≡ m)) → IsTrue (not b) ↔ (are_apart l m ≡ true)
apart_tested l m true w v h s e = (λ k. absurd (false≢true k), λ k. absurd (apart_differs l m k (e.0 refl)))
apart_tested l m false w v h s e = (λ k. apart_true l m w v h s (λ q. absurd (false≢true (e.1 q))), λ k. refl)

pub apart_roots : (l m : Tree) → ¬ (kind_of m ≡ kind_of l) → IsTrue false ↔ (are_apart l m ≡ true)
apart_roots l m n = (λ k. absurd (false≢true k), λ k. absurd (n (apart_kinds l m k).1))

pub not_apart : (l m : Tree) → ¬ (are_apart l m ≡ true) → are_apart l m ≡ false
not_apart l m n = go (are_apart l m) n
  where
    go : (b : Bool) → ¬ (b ≡ true) → b ≡ false
    go true k = absurd (k refl)
    go false k = refl
