-- The instances about sets, tuples and literals that are written out.
use Rattle.std.proofs.Common.{◌≡◌, ℕ, zero, suc, ◌-◌, ◌<◌, ◌≤◌, Bool, true, false, cond, not, nat_eq, IsTrue, Option, Some, None, List, [], ◌∷◌, length, get_or, take, drop, refl, ap, sym, ◌∙◌, arith, subst, ◌⊎◌, inl, inr, ◌↔◌}
use Rattle.std.proofs.lemmas.Bool.{and_parts, and_from, false≢true}
use Rattle.std.proofs.lemmas.Bool.Decides.{nat_tests}
use Rattle.std.proofs.lemmas.List.{nil_from_length, get_or_past}
use Rattle.core_expr.specs.declared.head.Head.TheVariants.{Num, Str}
use Rattle.core_expr.specs.declared.row.RowKind.{RowKind}
use Rattle.core_expr.specs.declared.row.RowKind.TheVariants.{Plain}
use Rattle.core_expr.specs.Tree.{Tree, eq_, not_}
use Rattle.core_expr.specs.Tree.Tree.{node}
use Rattle.core_expr.specs.Tree.Parts.{end}
use Rattle.core_expr.specs.Put.{IsScoped}
use Rattle.core_expr.specs.Heads.{kind_at, kind_table, kind_number, is_text, are_bytes, IsWellFormed, after_first}
use Rattle.core_expr.specs.Places.{kind_of}
use Rattle.core_expr.specs.Nodes.{Node, picked, node_fits, node_make, tree_over, trees_from}
use Rattle.core_expr.specs.Laws.{ShowsNode}
use Rattle.core_expr.proofs.NodeLaws.{node-shows}
use Rattle.seq_calculus.specs.Literals.{is_literal}
use Rattle.seq_calculus.specs.Schemas.{Row, no_row, rows, instance_of, if_closed, row20, row21, row22, about_enumeration, about_tuples, about_entry, are_apart}
use Rattle.seq_calculus.proofs.Closed.{if_closed-some}
use Rattle.seq_calculus.proofs.Tuples.{tuples_row, tuples_past, entry_row, entry_past}
use Rattle.seq_calculus.proofs.Lone.{apart_differs, apart_other, apart_tested, apart_roots, not_apart}
use Rattle.term_bank.specs.Banks.{IsDistinct, HasTree, HasNode, tree_at}
use Rattle.term_bank.proofs.TableLaws.{length-picked, fits-picked, is_true}
use Rattle.proof_checker.specs.Tables.{cells_of}
use Rattle.proof_checker.specs.Schemas.{IsInstance, HasHead, last}
use Rattle.proof_checker.specs.declared.tuple.TheConstants.{DIFFERENCE}
use Rattle.proof_checker.proofs.TurnLaws.{picked-take, picked-drop}
use Rattle.proof_checker.proofs.TupleLaws.{picked-read}
use Rattle.proof_checker.proofs.PatternLaws.{row_at-get}

-- a set whose elements are listed
pub enumeration_some : (ts ts' : List Tree) (params : List ℕ) (term number j : ℕ) → number ≡ 0 → 0 < length params → term ≡ get_or params 0 0 → HasTree ts' j (about_enumeration (tree_at ts term) (picked ts (drop 1 params))) → IsInstance ts' 1 number (picked ts params) (Some j)
enumeration_some ts ts' [] term number j n l e h = absurd (omega arith)
enumeration_some ts ts' (x ∷ xs) term zero j n l e h = (about_enumeration (tree_at ts x) (picked ts xs), refl, subst (λ y. HasTree ts' j (about_enumeration (tree_at ts y) (picked ts xs))) e h)
enumeration_some ts ts' (x ∷ xs) term (suc number) j n l e h = cc

pub enumeration_empty : (ts ts' : List Tree) (params : List ℕ) (number : ℕ) → number ≡ 0 → length params ≡ 0 → IsInstance ts' 1 number (picked ts params) None
enumeration_empty ts ts' [] zero n l = λ i e c. cc
enumeration_empty ts ts' [] (suc number) n l = cc
enumeration_empty ts ts' (x ∷ xs) number n l = absurd (omega arith)

pub other_enumeration : (ts : List Tree) (es : List Tree) (number : ℕ) → ¬ (number ≡ 0) → IsInstance ts 1 number es None
other_enumeration ts es zero n = absurd (n refl)
other_enumeration ts es (suc z) n = λ i e c. cc

-- two tuples
not_closed : (o : Option Tree) → if_closed o ≡ None → (i : Tree) → o ≡ Some i → IsScoped 0 i → ⊥
not_closed o n i e c = let s : if_closed o ≡ Some i = if_closed-some o i e c in cc

pub tuples_some : (ts ts' : List Tree) (params : List ℕ) (z j : ℕ) → z ≤ length params → HasTree ts' j (about_tuples (picked ts (take z params)) (picked ts (drop z params))) → IsInstance ts' 20 z (picked ts params) (Some j)
tuples_some ts ts' params z j l h =
    (about_tuples (take z (picked ts params)) (drop z (picked ts params)), tuples_row z (picked ts params) (omega (arith, length-picked ts params)), coe 0 1 (i. HasTree ts' j (about_tuples (picked-take ts z params i) (picked-drop ts z params i))) h)

pub tuples_none : (ts ts' : List Tree) (params : List ℕ) (z : ℕ) → length params < z → IsInstance ts' 20 z (picked ts params) None
tuples_none ts ts' params z l = not_closed (row20 z (picked ts params)) (tuples_past z (picked ts params) (omega (arith, length-picked ts params)))

-- an entry
pub entry_some : (ts ts' : List Tree) (params : List ℕ) (z e j : ℕ) → ¬ (z ≡ 0) → z ≤ length params → e ≡ get_or params (z - 1) 0 → HasTree ts' j (about_entry (picked ts params) z (tree_at ts e)) → IsInstance ts' 21 z (picked ts params) (Some j)
entry_some ts ts' params z e j n l q h =
    let m : z - 1 < length params = omega (arith, n) in
    (about_entry (picked ts params) z (tree_at ts e), entry_row z (picked ts params) (tree_at ts e) n (omega (arith, length-picked ts params)) (picked-read ts params (z - 1) e m q), h)

pub entry_none : (ts ts' : List Tree) (params : List ℕ) (z : ℕ) → (z ≡ 0) ⊎ (length params < z) → IsInstance ts' 21 z (picked ts params) None
entry_none ts ts' params zero h = λ i e c. cc
entry_none ts ts' params (suc z) (inl e) = cc
entry_none ts ts' params (suc z) (inr l) = not_closed (row21 (suc z) (picked ts params)) (entry_past (suc z) (picked ts params) (omega (arith, length-picked ts params)))

-- literals by their head numbers
record IsLiteral (t : Tree) (k : RowKind) : Type 0 where
  pub formed : IsWellFormed t
  pub kind : kind_of t ≡ k

number_form : (ts : List Tree) (i : ℕ) (n : Node) → HasNode ts i n → n.head ≡ 2 → IsLiteral (tree_at ts i) (Plain Num)
unfolding kind_at kind_table
number_form ts i n h e =
    let f : node_fits 2 n.numbers (length n.parts) ≡ true = ap (λ k. node_fits k n.numbers (length n.parts)) (sym e) ∙ is_true _ h.node.0 in
    let g = and_parts (nat_eq (length n.numbers) 2) (nat_eq (length n.parts) 0) f in
    let z : length n.parts ≡ 0 = (let y = g.1 in grind (arith, nat_tests)) in
    let t : tree_at ts i ≡ node Num n.numbers end = h.tree ∙ (λ k. node_make (e k) n.numbers (picked ts (nil_from_length n.parts z k))) in
    let w : IsWellFormed (node Num n.numbers end) = and_from _ _ (and_from (nat_eq (length n.numbers) 2) true g.0 refl) refl in
    subst (λ u. IsLiteral u (Plain Num)) (sym t) (record { formed = w; kind = refl })

text_form : (ts : List Tree) (i : ℕ) (n : Node) → HasNode ts i n → n.head ≡ 3 → IsLiteral (tree_at ts i) (Plain Str)
unfolding kind_at kind_table
text_form ts i n h e =
    let f : node_fits 3 n.numbers (length n.parts) ≡ true = ap (λ k. node_fits k n.numbers (length n.parts)) (sym e) ∙ is_true _ h.node.0 in
    let g = and_parts (is_text n.numbers) (nat_eq (length n.parts) 0) f in
    let z : length n.parts ≡ 0 = (let y = g.1 in grind (arith, nat_tests)) in
    let t : tree_at ts i ≡ node Str (after_first n.numbers) end = h.tree ∙ (λ k. node_make (e k) n.numbers (picked ts (nil_from_length n.parts z k))) in
    let w : IsWellFormed (node Str (after_first n.numbers) end) = and_from _ _ (and_from (is_text (length (after_first n.numbers) ∷ after_first n.numbers)) true (text n.numbers g.0) refl) refl in
    subst (λ u. IsLiteral u (Plain Str)) (sym t) (record { formed = w; kind = refl })
  where
    same : (n : ℕ) → nat_eq n n ≡ true
    same n = grind (arith, nat_tests)

    text : (ns : List ℕ) → is_text ns ≡ true → is_text (length (after_first ns) ∷ after_first ns) ≡ true
    text [] h = cc
    text (m ∷ ns) h = and_from (nat_eq (length ns) (length ns)) (are_bytes ns) (same (length ns)) (and_parts (nat_eq m (length ns)) (are_bytes ns) h).1

head_is : (ts : List Tree) (i h : ℕ) → HasHead ts i h → kind_number (kind_of (tree_at ts i)) ≡ h
head_is ts i h a =
    let s : ShowsNode a.node.head a.node.numbers (picked ts a.node.parts) (tree_over ts a.node) = node-shows a.node.head a.node.numbers (picked ts a.node.parts) (fits-picked ts a.node a.has.node.0) in
    ap (λ t. kind_number (kind_of t)) a.has.tree ∙ s.head_is ∙ a.head

literal_number : (k : RowKind) → is_literal k ≡ true → (kind_number k ≡ 2) ⊎ (kind_number k ≡ 3)
literal_number (Plain Num) e = inl refl
literal_number (Plain Str) e = inr refl
literal_number _ e = cc

not_literal : (k : RowKind) → ¬ (kind_number k ≡ 2) → ¬ (kind_number k ≡ 3) → is_literal k ≡ false
not_literal k n m = go (is_literal k) refl
  where
    go : (b : Bool) → is_literal k ≡ b → b ≡ false
    go true e = elim (literal_number k e) [ inl h ↦ absurd (n h) | inr h ↦ absurd (m h) ]
    go false e = refl

pub apart_by_head : (ts : List Tree) (l m h : ℕ) → HasHead ts l h → ¬ (h ≡ 2) → ¬ (h ≡ 3) → false ≡ are_apart (tree_at ts l) (tree_at ts m)
apart_by_head ts l m h a n2 n3 =
    let e = head_is ts l h a in
    let k = not_literal (kind_of (tree_at ts l)) (λ q. n2 (sym e ∙ q)) (λ q. n3 (sym e ∙ q)) in
    sym (not_apart (tree_at ts l) (tree_at ts m) (λ q. false≢true ((apart_other (tree_at ts l) (tree_at ts m) k).1 q)))

pub apart_by_heads : (ts : List Tree) (l m h h' : ℕ) → HasHead ts l h → HasHead ts m h' → ¬ (h ≡ h') → false ≡ are_apart (tree_at ts l) (tree_at ts m)
apart_by_heads ts l m h h' a b n =
    sym (not_apart (tree_at ts l) (tree_at ts m) (λ q. false≢true ((apart_roots (tree_at ts l) (tree_at ts m) (λ k. n (sym (head_is ts l h a) ∙ sym (ap kind_number k) ∙ head_is ts m h' b))).1 q)))

same_result : (b c : Bool) → (IsTrue b ↔ (c ≡ true)) → b ≡ c
same_result true c h = sym (h.0 refl)
same_result false true h = h.1 refl
same_result false false h = refl

literal : (ts : List Tree) (i h : ℕ) → HasHead ts i h → (h ≡ 2) ⊎ (h ≡ 3) → (k : RowKind) × (is_literal k ≡ true) × (kind_number k ≡ h) × IsLiteral (tree_at ts i) k
literal ts i h a (inl e) = (Plain Num, refl, sym e, number_form ts i a.node a.has (a.head ∙ e))
literal ts i h a (inr e) = (Plain Str, refl, sym e, text_form ts i a.node a.has (a.head ∙ e))

apart_by_index : (ts : List Tree) (l m h : ℕ) (b : Bool) → IsDistinct ts → l < length ts → m < length ts → HasHead ts l h → HasHead ts m h → (h ≡ 2) ⊎ (h ≡ 3) → (IsTrue b ↔ (l ≡ m)) → not b ≡ are_apart (tree_at ts l) (tree_at ts m)
apart_by_index ts l m h b d p q a c o w =
    let x = literal ts l h a o in
    let y = literal ts m h c o in
    let k : kind_of (tree_at ts m) ≡ kind_of (tree_at ts l) = go o in
    same_result (not b) (are_apart (tree_at ts l) (tree_at ts m)) (apart_tested (tree_at ts l) (tree_at ts m) b x.3.formed y.3.formed (ap is_literal x.3.kind ∙ x.1) k ((λ t. ap (tree_at ts) (w.0 t)), (λ e. w.1 (d l m p q e))))
  where
    go : (h ≡ 2) ⊎ (h ≡ 3) → kind_of (tree_at ts m) ≡ kind_of (tree_at ts l)
    go (inl e) = (number_form ts m c.node c.has (c.head ∙ e)).kind ∙ sym (number_form ts l a.node a.has (a.head ∙ e)).kind
    go (inr e) = (text_form ts m c.node c.has (c.head ∙ e)).kind ∙ sym (text_form ts l a.node a.has (a.head ∙ e)).kind

two_params : (params : List ℕ) (l m : ℕ) → length params ≡ 2 → l ≡ get_or params 0 0 → m ≡ get_or params 1 0 → params ≡ l ∷ m ∷ []
two_params [] l m n e f = absurd (omega arith)
two_params (x ∷ []) l m n e f = absurd (omega arith)
two_params (x ∷ y ∷ []) l m n e f = λ i. sym e i ∷ sym f i ∷ []
two_params (x ∷ y ∷ z ∷ params) l m n e f = absurd (omega arith)

difference_made : (ts ts' : List Tree) (l m j : ℕ) → are_apart (tree_at ts l) (tree_at ts m) ≡ true → HasTree ts' j (last (trees_from (picked ts (l ∷ m ∷ [])) (cells_of DIFFERENCE))) → IsInstance ts' 22 0 (picked ts (l ∷ m ∷ [])) (Some j)
unfolding kind_at kind_table
difference_made ts ts' l m j a h = (not_ (eq_ (tree_at ts l) (tree_at ts m)), ap (λ (v : Bool). cond v (Some (not_ (eq_ (tree_at ts l) (tree_at ts m)))) None) a, h)

pub literals_some : (ts ts' : List Tree) (params : List ℕ) (l m j : ℕ) (b : Bool) → length params ≡ 2 → l ≡ get_or params 0 0 → m ≡ get_or params 1 0 → b ≡ are_apart (tree_at ts l) (tree_at ts m) → b ≡ true → HasTree ts' j (last (trees_from (picked ts params) (cells_of DIFFERENCE))) → IsInstance ts' 22 0 (picked ts params) (Some j)
literals_some ts ts' params l m j b n el em a t h =
    let e = two_params params l m n el em in
    subst (λ ps. IsInstance ts' 22 0 (picked ts ps) (Some j)) (sym e) (difference_made ts ts' l m j (sym a ∙ t) (subst (λ ps. HasTree ts' j (last (trees_from (picked ts ps) (cells_of DIFFERENCE)))) e h))

alike : (ts ts' : List Tree) (l m : ℕ) → are_apart (tree_at ts l) (tree_at ts m) ≡ false → IsInstance ts' 22 0 (picked ts (l ∷ m ∷ [])) None
alike ts ts' l m a = λ i e c. let q : row22 0 (picked ts (l ∷ m ∷ [])) ≡ None = ap (λ (v : Bool). cond v (Some (not_ (eq_ (tree_at ts l) (tree_at ts m)))) None) a in let e' : row22 0 (picked ts (l ∷ m ∷ [])) ≡ Some i = e in cc

pub literals_alike : (ts ts' : List Tree) (params : List ℕ) (l m : ℕ) (b : Bool) → length params ≡ 2 → l ≡ get_or params 0 0 → m ≡ get_or params 1 0 → b ≡ are_apart (tree_at ts l) (tree_at ts m) → b ≡ false → IsInstance ts' 22 0 (picked ts params) None
literals_alike ts ts' params l m b n el em a t = subst (λ ps. IsInstance ts' 22 0 (picked ts ps) None) (sym (two_params params l m n el em)) (alike ts ts' l m (sym a ∙ t))

pub literals_other : (ts : List Tree) (es : List Tree) (z : ℕ) → (¬ (z ≡ 0)) ⊎ (¬ (length es ≡ 2)) → IsInstance ts 22 z es None
literals_other ts es (suc z) n = λ i e c. cc
literals_other ts es zero (inl n) = absurd (n refl)
literals_other ts [] zero (inr n) = λ i e c. cc
literals_other ts (x ∷ []) zero (inr n) = λ i e c. cc
literals_other ts (x ∷ y ∷ []) zero (inr n) = absurd (n refl)
literals_other ts (x ∷ y ∷ z ∷ es) zero (inr n) = λ i e c. cc

pub no_schema : (ts : List Tree) (k z : ℕ) (es : List Tree) → (k ≡ 0) ⊎ (22 < k) → IsInstance ts k z es None
no_schema ts k z es h = λ i e c. let q : ◌≡◌ {A = Option Tree} None (Some i) = sym (past k h) ∙ e in cc
  where
    past : (k : ℕ) → (k ≡ 0) ⊎ (22 < k) → instance_of k z es ≡ None
    past k (inl o) = ap (λ j. instance_of j z es) o
    past k (inr l) = ap (λ (r : Row). r z es) (row_at-get rows k ∙ get_or_past rows k no_row (omega arith))

pub apart_same : (ts : List Tree) (l m : ℕ) → l ≡ m → false ≡ are_apart (tree_at ts l) (tree_at ts m)
apart_same ts l m e = sym (not_apart (tree_at ts l) (tree_at ts m) (λ q. apart_differs (tree_at ts l) (tree_at ts m) q (ap (tree_at ts) e)))

pub apart_yes : (ts : List Tree) (l m h h' : ℕ) → IsDistinct ts → l < length ts → m < length ts → HasHead ts l h → HasHead ts m h' → h ≡ h' → (h ≡ 2) ⊎ (h ≡ 3) → ¬ (l ≡ m) → true ≡ are_apart (tree_at ts l) (tree_at ts m)
apart_yes ts l m h h' d p q a c e o n = apart_by_index ts l m h false d p q a (subst (λ k. HasHead ts m k) (sym e) c) o ((λ t. absurd (false≢true t)), (λ k. absurd (n k)))
