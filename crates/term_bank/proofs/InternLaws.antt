-- The nodes of an expression, one after another, as nodes of a bank.
use Rattle.std.proofs.Common.{◌≡◌, ℕ, suc, ◌+◌, ◌-◌, ◌<◌, ◌≤◌, Bool, true, ◌&&◌, nat_le, nat_eq, List, [], ◌∷◌, ◌++◌, length, get_or, take, drop, refl, ap, sym, ◌∙◌, arith, append_assoc, append-nil, rules, subst, IsTrue, zero-add, length-append}
use Rattle.std.proofs.lemmas.Bool.Decides.{nat_tests}
use Rattle.std.proofs.lemmas.Bool.{and_parts, and_from}
use Rattle.std.proofs.lemmas.List.{take-append-drop, length-drop, length-take-le, length_push, drop_more, drop_all, take_all}
use Rattle.core_expr.specs.declared.head.Sym.{Sym}
use Rattle.core_expr.specs.declared.row.Row.{Row}
use Rattle.core_expr.specs.declared.row.RowKind.{RowKind}
use Rattle.core_expr.specs.declared.row.RowKind.TheVariants.{Bound, Symbol, Plain, Binding}
use Rattle.core_expr.specs.Tree.{Tree, Parts, size, true_}
use Rattle.core_expr.specs.Tree.Tree.{bound, app, node, bind}
use Rattle.core_expr.specs.Tree.Parts.{end, part}
use Rattle.core_expr.specs.Heads.{kind_number, kind_fits, plain_fits, binder_arity, table_numbers, make_kind, is_well_formed, are_well_formed}
use Rattle.core_expr.specs.Flat.{row, rows_at, rows_of, row_at, all_rows, build, complete}
use Rattle.core_expr.specs.Coding.{onto, gather-all, rest-all, build-rows_at}
use Rattle.core_expr.specs.Nodes.{picked, tree_over, AreBelow}
use Rattle.term_bank.specs.Banks.{Extends, HasTree}
use Rattle.core_expr.specs.Heads.{is_canon, is_lasting, is_canonical_kind, is_canonical, are_canonical}
use Rattle.core_expr.proofs.NodeLaws.{row-make, row-fits}
use Rattle.term_bank.specs.Canonical.{row_node, row_fits, fed, IsRun}
use Rattle.term_bank.proofs.TableLaws.{is_true, length-picked, picked-extend, AreBelow-more}

-- enough trees for the parts of a node
fed-row : (r : Row) (p n : ℕ) (qs : List Row) → is_canonical_kind r.kind ≡ true → row_fits r ≡ true → r.parts ≡ p → fed (p + n) (r ∷ qs) ≡ fed (suc n) qs
fed-row r p n qs c f e =
    let l : nat_le r.parts (p + n) ≡ true = grind (arith, nat_tests) in
    let m : p + n - r.parts ≡ n = omega (arith, e) in
    ap (λ b. b && (nat_le r.parts (p + n) && fed (suc (p + n - r.parts)) qs)) (and_from _ _ c f) ∙ ap (λ b. b && fed (suc (p + n - r.parts)) qs) l ∙ ap (λ k. fed (suc k) qs) m

mutual
  pub fed-rows_at : (n d : ℕ) (t : Tree) (qs : List Row) → is_well_formed t ≡ true → is_canonical t ≡ true → fed n (rows_at d t ++ qs) ≡ fed (suc n) qs
  fed-rows_at n d (bound i) qs w c = ap (λ k. fed k (row Bound (i ∷ []) 0 d ∷ qs)) (sym (zero-add n)) ∙ fed-row (row Bound (i ∷ []) 0 d) 0 n qs refl (row-fits Bound (i ∷ []) 0 refl refl) refl
  fed-rows_at n d (app f ps) qs w c =
      let v = and_parts (nat_eq (size ps) f.arity) (are_well_formed ps) w in
      let b = and_parts (is_canon f.kind) (are_canonical ps) c in
      ap (fed n) (append_assoc (all_rows d ps) (row (Symbol f) [] (size ps) d ∷ []) qs) ∙ fed-all_rows n d ps (row (Symbol f) [] (size ps) d ∷ qs) v.1 b.1 ∙ fed-row (row (Symbol f) [] (size ps) d) (size ps) n qs b.0 (row-fits (Symbol f) [] (size ps) b.0 v.0) refl
  fed-rows_at n d (node h ns ps) qs w c =
      let v = and_parts (plain_fits h (table_numbers h ns (size ps)) (size ps)) (are_well_formed ps) w in
      let b = and_parts (is_lasting h) (are_canonical ps) c in
      let r : Row = row (Plain h) (table_numbers h ns (size ps)) (size ps) d in
      ap (fed n) (append_assoc (all_rows d ps) (r ∷ []) qs) ∙ fed-all_rows n d ps (r ∷ qs) v.1 b.1 ∙ fed-row r (size ps) n qs b.0 (row-fits (Plain h) (table_numbers h ns (size ps)) (size ps) b.0 v.0) refl
  fed-rows_at n d (bind b ps e) qs w c =
      let v = and_parts (nat_eq (size ps + 1) (binder_arity b)) (are_well_formed ps && is_well_formed e) w in
      let u = and_parts (are_well_formed ps) (is_well_formed e) v.1 in
      let a = and_parts (are_canonical ps) (is_canonical e) c in
      let r : Row = row (Binding b) [] (suc (size ps)) d in
      let o : size ps + 1 ≡ suc (size ps) = omega arith in
      let more : suc (size ps + n) ≡ suc (size ps) + n = omega arith in
      let f : kind_fits (Binding b) [] (suc (size ps)) ≡ true = ap (λ k. nat_eq k (binder_arity b)) (sym o) ∙ v.0 in
      ap (fed n) (append_assoc (all_rows d ps) (rows_at (suc d) e ++ r ∷ []) qs) ∙ fed-all_rows n d ps ((rows_at (suc d) e ++ r ∷ []) ++ qs) u.0 a.0 ∙ ap (fed (size ps + n)) (append_assoc (rows_at (suc d) e) (r ∷ []) qs) ∙ fed-rows_at (size ps + n) (suc d) e (r ∷ qs) u.1 a.1 ∙ ap (λ k. fed k (r ∷ qs)) more ∙ fed-row r (suc (size ps)) n qs refl (row-fits (Binding b) [] (suc (size ps)) refl f) refl

  fed-all_rows : (n d : ℕ) (ps : Parts) (qs : List Row) → are_well_formed ps ≡ true → are_canonical ps ≡ true → fed n (all_rows d ps ++ qs) ≡ fed (size ps + n) qs
  fed-all_rows n d end qs w c = ap (λ k. fed k qs) (sym (zero-add n))
  fed-all_rows n d (part e ps) qs w c =
      let v = and_parts (is_well_formed e) (are_well_formed ps) w in
      let b = and_parts (is_canonical e) (are_canonical ps) c in
      let o : size ps + suc n ≡ suc (size ps) + n = omega arith in
      ap (fed n) (append_assoc (rows_at d e) (all_rows d ps) qs) ∙ fed-rows_at n d e (all_rows d ps ++ qs) v.0 b.0 ∙ fed-all_rows (suc n) d ps qs v.1 b.1 ∙ ap (λ k. fed k qs) o

-- a run begins with no tree
pub run_begins : (ts : List Tree) (t : Tree) → is_well_formed t ≡ true → is_canonical t ≡ true → IsRun ts [] (rows_of t) t
run_begins ts t w c =
    record {
      below = tt;
      built = ap (λ rs. build rs []) (sym (append-nil (rows_of t))) ∙ build-rows_at 0 t [] [];
      fits = ap (fed 0) (sym (append-nil (rows_of t))) ∙ fed-rows_at 0 0 t [] w c;
    }

-- the stack of two lists
onto-append : (ts us st : List Tree) → onto (ts ++ us) st ≡ onto us (onto ts st)
onto-append [] us st = refl
onto-append (t ∷ ts) us st = onto-append ts us (t ∷ st)

pub picked-append : (ts : List Tree) (is js : List ℕ) → picked ts (is ++ js) ≡ picked ts is ++ picked ts js
picked-append ts [] js = refl
picked-append ts (i ∷ is) js = ap (λ us. get_or ts i true_ ∷ us) (picked-append ts is js)

pub AreBelow-append : (n : ℕ) (is js : List ℕ) → AreBelow n is → AreBelow n js → AreBelow n (is ++ js)
AreBelow-append n [] js a b = b
AreBelow-append n (i ∷ is) js a b = (a.0, AreBelow-append n is js a.1 b)

pub AreBelow-parts : (n : ℕ) (is js : List ℕ) → AreBelow n (is ++ js) → AreBelow n is × AreBelow n js
AreBelow-parts n [] js a = (tt, a)
AreBelow-parts n (i ∷ is) js a = let p = AreBelow-parts n is js a.1 in ((a.0, p.0), p.1)

-- what the first node needs
pub run_fits : (ts : List Tree) (stack : List ℕ) (r : Row) (rs : List Row) (t : Tree) → IsRun ts stack (r ∷ rs) t → (is_canonical_kind r.kind ≡ true) × ((row_fits r ≡ true) × (r.parts ≤ length stack))
run_fits ts stack r rs t a =
    let p = and_parts (is_canonical_kind r.kind && row_fits r) (nat_le r.parts (length stack) && fed (suc (length stack - r.parts)) rs) a.fits in
    let c = and_parts (is_canonical_kind r.kind) (row_fits r) p.0 in
    let q : nat_le r.parts (length stack) ≡ true = (and_parts (nat_le r.parts (length stack)) (fed (suc (length stack - r.parts)) rs) p.1).0 in
    (c.0, (c.1, grind (arith, nat_tests)))

pub run_step : (ts ts' : List Tree) (stack : List ℕ) (r : Row) (rs : List Row) (t : Tree) (k i : ℕ) → k ≡ length stack - r.parts → IsRun ts stack (r ∷ rs) t → Extends ts ts' → HasTree ts' i (tree_over ts (row_node r (drop k stack))) → IsRun ts' (take k stack ++ i ∷ []) rs t
run_step ts ts' stack r rs t k i ek a x h =
    record {
      below = AreBelow-append (length ts') xs (i ∷ []) (AreBelow-more (length ts) (length ts') xs longer (AreBelow-parts (length ts) xs ys whole).0) (h.within, tt);
      built = ap (build rs) (stack_is ∙ sym done) ∙ a.built;
      fits = ap (λ n. fed n rs) count ∙ (and_parts (nat_le r.parts (length stack)) (fed (suc (length stack - r.parts)) rs) (and_parts (is_canonical_kind r.kind && row_fits r) (nat_le r.parts (length stack) && fed (suc (length stack - r.parts)) rs) a.fits).1).1;
    }
  where
    xs : List ℕ
    xs = take k stack

    ys : List ℕ
    ys = drop k stack

    f : (is_canonical_kind r.kind ≡ true) × ((row_fits r ≡ true) × (r.parts ≤ length stack))
    f = run_fits ts stack r rs t a

    parts : r.parts ≡ length (picked ts ys)
    parts = omega (arith, ek, f.1.1, length-drop k stack, length-picked ts ys)

    count : length (xs ++ i ∷ []) ≡ suc (length stack - r.parts)
    count = let l : k ≤ length stack = omega (arith, ek) in omega (arith, ek, length-take-le k stack l, length_push xs i)

    longer : length ts ≤ length ts'
    longer = omega (arith, ap length x.1, length-append ts x.0)

    whole : AreBelow (length ts) (xs ++ ys)
    whole = subst (AreBelow (length ts)) (sym (take-append-drop k stack)) a.below

    same : picked ts' xs ≡ picked ts xs
    same = ap (λ us. picked us xs) x.1 ∙ picked-extend ts x.0 xs (AreBelow-parts (length ts) xs ys whole).0

    base : List Tree
    base = onto (picked ts xs) []

    split : onto (picked ts stack) [] ≡ onto (picked ts ys) base
    split = ap (λ is. onto (picked ts is) []) (sym (take-append-drop k stack)) ∙ ap (λ us. onto us []) (picked-append ts xs ys) ∙ onto-append (picked ts xs) (picked ts ys) []

    -- the node completes its parts
    done : complete r (onto (picked ts stack) []) ≡ make_kind r.kind r.numbers (picked ts ys) ∷ base
    done = ap (complete r) split ∙ (λ j. make_kind r.kind r.numbers ((gather-all r.parts (picked ts ys) [] base parts ∙ append-nil (picked ts ys)) j) ∷ rest-all r.parts (picked ts ys) base parts j)

    stack_is : onto (picked ts' (xs ++ i ∷ [])) [] ≡ make_kind r.kind r.numbers (picked ts ys) ∷ base
    stack_is =
        ap (λ us. onto us []) (picked-append ts' xs (i ∷ [])) ∙ onto-append (picked ts' xs) (picked ts' (i ∷ [])) []
        ∙ (λ j. (h.tree ∙ row-make r.kind r.numbers (picked ts ys) f.0) j ∷ onto (same j) [])

-- a run that has no node left
pub run_ends : (ts : List Tree) (stack : List ℕ) (t : Tree) → IsRun ts stack [] t → (0 < length stack) × HasTree ts (get_or stack 0 0) t
run_ends ts [] t a = cc
run_ends ts (i ∷ []) t a = (omega arith, record { within = a.below.0; tree = first_is _ _ a.built })
  where
    first_is : (u v : Tree) → u ∷ [] ≡ v ∷ [] → u ≡ v
    first_is u v e = cc
run_ends ts (i ∷ j ∷ is) t a = absurd (omega (arith, count, length-onto (picked ts (i ∷ j ∷ is)) [], length-picked ts (i ∷ j ∷ is)))
  where
    length-onto : (us st : List Tree) → length (onto us st) ≡ length us + length st
    length-onto [] st = omega arith
    length-onto (u ∷ us) st = omega (arith, length-onto us (u ∷ st))

    count : length (onto (picked ts (i ∷ j ∷ is)) []) ≡ 1
    count = ap length a.built

-- the nodes from a place on
pub rows_from : (t : Tree) (i : ℕ) → i < length (rows_of t) → drop i (rows_of t) ≡ row_at t i ∷ drop (i + 1) (rows_of t)
rows_from t i h = drop_more (rows_of t) i (row Bound (0 ∷ []) 0 0) h

true_is : (b : Bool) → b ≡ true → IsTrue b
true_is b h = search rules

-- the same, for what the code has
pub at_row : (ts : List Tree) (stack : List ℕ) (t : Tree) (i : ℕ) → i < length (rows_of t) → IsRun ts stack (drop i (rows_of t)) t → IsRun ts stack (row_at t i ∷ drop (i + 1) (rows_of t)) t
at_row ts stack t i h a = subst (λ rs. IsRun ts stack rs t) (rows_from t i h) a

pub row_form : (ts : List Tree) (stack : List ℕ) (t : Tree) (i : ℕ) → i < length (rows_of t) → IsRun ts stack (drop i (rows_of t)) t → IsTrue (row_fits (row_at t i))
row_form ts stack t i h a = true_is _ (run_fits ts stack (row_at t i) (drop (i + 1) (rows_of t)) t (at_row ts stack t i h a)).1.0

-- as many trees as the node has parts stand on the stack
pub parts_stacked : (ts : List Tree) (stack : List ℕ) (t : Tree) (i : ℕ) → i < length (rows_of t) → IsRun ts stack (drop i (rows_of t)) t → (row_at t i).parts ≤ length stack
parts_stacked ts stack t i h a = (run_fits ts stack (row_at t i) (drop (i + 1) (rows_of t)) t (at_row ts stack t i h a)).1.1

-- a node that is no symbol's has its own numbers
pub no_symbol : (k : RowKind) (ns ps : List ℕ) → ((f : Sym) → k ≡ Symbol f → ⊥) → row_node (record { kind = k; numbers = ns; parts = length ps; depth = 0 }) ps ≡ record { head = kind_number k; numbers = ns; parts = ps }
no_symbol Bound ns ps h = refl
no_symbol (Symbol f) ns ps h = absurd (h f refl)
no_symbol (Plain g) ns ps h = refl
no_symbol (Binding b) ns ps h = refl

pub parts_slice : (items stack : List ℕ) (k : ℕ) → items ≡ stack → take (length items - k) (drop k items) ≡ drop k stack
parts_slice items stack k e = take_all (length items - k) (drop k items) (omega (arith, length-drop k items)) ∙ ap (drop k) e

pub parts_below : (n : ℕ) (items stack : List ℕ) (k : ℕ) → items ≡ stack → AreBelow n stack → AreBelow n (take (length items - k) (drop k items))
parts_below n items stack k e b =
    subst (AreBelow n) (sym (parts_slice items stack k e)) (AreBelow-parts n (take k stack) (drop k stack) (subst (AreBelow n) (sym (take-append-drop k stack)) b)).1

pub row_added : (ts ts' : List Tree) (items stack out : List ℕ) (t : Tree) (i len parts k : ℕ) → i < length (rows_of t) → IsRun ts stack (drop i (rows_of t)) t → items ≡ stack → len ≡ length stack → parts ≡ (row_at t i).parts → Extends ts ts' → HasTree ts' k (tree_over ts (row_node (row_at t i) (take (length items - (len - parts)) (drop (len - parts) items)))) → out ≡ take (len - parts) stack ++ k ∷ [] → IsRun ts' out (drop (i + 1) (rows_of t)) t
row_added ts ts' items stack out t i len parts k h a ei el ep x f eo =
    subst (λ is. IsRun ts' is (drop (i + 1) (rows_of t)) t) (sym eo)
    (run_step ts ts' stack (row_at t i) (drop (i + 1) (rows_of t)) t (len - parts) k (λ j. el j - ep j) (at_row ts stack t i h a) x
    (subst (λ is. HasTree ts' k (tree_over ts (row_node (row_at t i) is))) (parts_slice items stack (len - parts) ei) f))

pub no_rows : (ts : List Tree) (stack : List ℕ) (t : Tree) (n : ℕ) → length (rows_of t) ≤ n → IsRun ts stack (drop n (rows_of t)) t → (0 < length stack) × HasTree ts (get_or stack 0 0) t
no_rows ts stack t n h a = run_ends ts stack t (subst (λ rs. IsRun ts stack rs t) (drop_all n (rows_of t) h) a)

pub begun : (ts : List Tree) (stack : List ℕ) (t : Tree) → stack ≡ [] → IsTrue (is_well_formed t) → IsTrue (is_canonical t) → IsRun ts stack (rows_of t) t × Extends ts ts
begun ts stack t e w c = (subst (λ is. IsRun ts is (rows_of t) t) (sym e) (run_begins ts t (is_true _ w) (is_true _ c)), ([], sym (append-nil ts)))

pub ended : (ts : List Tree) (stack : List ℕ) (t : Tree) (n len k : ℕ) → IsRun ts stack (drop n (rows_of t)) t → len ≡ length (rows_of t) → len ≤ n → k ≡ get_or stack 0 k → HasTree ts k t
ended ts stack t n len k a e l q =
    let r = no_rows ts stack t n (omega (arith, e)) a in
    subst (λ i. HasTree ts i t) (same stack r.0 ∙ sym q) r.1
  where
    same : (is : List ℕ) → 0 < length is → get_or is 0 0 ≡ get_or is 0 k
    same [] h = absurd (omega arith)
    same (i ∷ is) h = refl
