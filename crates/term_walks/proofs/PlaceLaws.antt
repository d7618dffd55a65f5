-- Lists of indices that agree, and the parts of nodes with one head and the same numbers.
use Rattle.std.proofs.Common.{◌≡◌, ℕ, ◌<◌, suc, min, true, nat_eq, List, [], ◌∷◌, length, get_or, refl, sym, ◌∙◌, arith, subst}
use Rattle.std.proofs.lemmas.Bool.{and_parts, eqb-true}
use Rattle.std.proofs.lemmas.Bool.Decides.{nat_tests}
use Rattle.core_expr.specs.declared.head.Head.{Head}
use Rattle.core_expr.specs.declared.head.Head.TheVariants.{Num, Str, Enum, Tuple}
use Rattle.core_expr.specs.declared.row.RowKind.{RowKind}
use Rattle.core_expr.specs.declared.row.RowKind.TheVariants.{Bound, Symbol, Plain, Binding}
use Rattle.core_expr.specs.Heads.{plain_fits, binder_arity, head_arity, is_empty, is_only, is_text, first, after_first}
use Rattle.core_expr.specs.Nodes.{AreBelow, numbers_fit}
use Rattle.core_expr.proofs.BuildLaws.{no_numbers}
use Rattle.term_bank.proofs.TableLaws.{AreBelow-at}
use Rattle.term_walks.specs.Places.{AgreeBefore}

pub parts_same : (ps qs : List ℕ) → AgreeBefore ps qs (min (length ps) (length qs)) → length ps ≡ length qs → ps ≡ qs
parts_same [] [] f e = refl
parts_same [] (q ∷ qs) f e = absurd (omega (arith, e))
parts_same (p ∷ ps) [] f e = absurd (omega (arith, e))
parts_same (p ∷ ps) (q ∷ qs) f e =
    let a : p ≡ q = f 0 (omega arith) in
    let b = parts_same ps qs (λ j h. f (suc j) (omega arith)) (omega (arith, e)) in
    λ i. a i ∷ b i

-- nodes of one kind with the same numbers have as many parts
only-count : (ns : List ℕ) (a b : ℕ) → is_only a ns ≡ true → is_only b ns ≡ true → a ≡ b
only-count [] a b v w = cc
only-count (n ∷ ns) a b v w =
    sym (eqb-true n a (and_parts (nat_eq n a) (is_empty ns) v).0) ∙ eqb-true n b (and_parts (nat_eq n b) (is_empty ns) w).0

plain-count : (h : Head) (ns : List ℕ) (a b : ℕ) → plain_fits h ns a ≡ true → plain_fits h ns b ≡ true → a ≡ b
plain-count Num ns a b v w = eqb-true a 0 (and_parts (nat_eq (length ns) 2) (nat_eq a 0) v).1 ∙ sym (eqb-true b 0 (and_parts (nat_eq (length ns) 2) (nat_eq b 0) w).1)
plain-count Str ns a b v w = eqb-true a 0 (and_parts (is_text ns) (nat_eq a 0) v).1 ∙ sym (eqb-true b 0 (and_parts (is_text ns) (nat_eq b 0) w).1)
plain-count Enum ns a b v w = only-count ns a b v w
plain-count Tuple ns a b v w = only-count ns a b v w
plain-count h ns a b v w =
    eqb-true a (head_arity h) (and_parts (is_empty ns) (nat_eq a (head_arity h)) v).1 ∙ sym (eqb-true b (head_arity h) (and_parts (is_empty ns) (nat_eq b (head_arity h)) w).1)

pub kind-count : (k : RowKind) (ns : List ℕ) (a b : ℕ) → numbers_fit k ns a ≡ true → numbers_fit k ns b ≡ true → a ≡ b
kind-count Bound ns a b v w = eqb-true a 0 (and_parts (nat_eq (length ns) 1) (nat_eq a 0) v).1 ∙ sym (eqb-true b 0 (and_parts (nat_eq (length ns) 1) (nat_eq b 0) w).1)
kind-count (Symbol f) ns a b v w = eqb-true a f.arity (and_parts (nat_eq (length ns) 2) (nat_eq a f.arity) v).1 ∙ sym (eqb-true b f.arity (and_parts (nat_eq (length ns) 2) (nat_eq b f.arity) w).1)
kind-count (Plain h) ns a b v w = plain-count h ns a b v w
kind-count (Binding g) ns a b v w =
    eqb-true a (binder_arity g) (and_parts (is_empty ns) (nat_eq a (binder_arity g)) v).1 ∙ sym (eqb-true b (binder_arity g) (and_parts (is_empty ns) (nat_eq b (binder_arity g)) w).1)

-- the numbers of a symbol's node
pub two_numbers : (ns : List ℕ) → nat_eq (length ns) 2 ≡ true → first ns ∷ first (after_first ns) ∷ [] ≡ ns
two_numbers [] w = cc
two_numbers (n ∷ []) w = cc
two_numbers (n ∷ a ∷ []) w = refl
two_numbers (n ∷ a ∷ m ∷ ns) w = absurd (no (length ns) w)
  where
    no : (k : ℕ) → nat_eq (suc (suc (suc k))) 2 ≡ true → ⊥
    no k w = grind (arith, nat_tests)

-- a count of parts is not kept
pub only-kept : (k : ℕ) (ns : List ℕ) → is_only k ns ≡ true → after_first ns ≡ []
only-kept k [] w = refl
only-kept k (n ∷ ns) w = no_numbers ns (and_parts (nat_eq n k) (is_empty ns) w).1

-- a part of a node
pub part_below : (i k p : ℕ) (ps : List ℕ) → AreBelow i ps → k < length ps → p ≡ get_or ps k 0 → p < i
part_below i k p ps b l e = subst (λ x. x < i) (sym e) (AreBelow-at i ps k b l)
