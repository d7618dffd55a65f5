-- Formulas about sets, tuples and literals that are written out.
use Rattle.std.proofs.Common.{◌≡◌, ℕ, zero, suc, ◌+◌, ◌<◌, ◌≤◌, true, false, cond, nat_eq, List, [], ◌∷◌, ◌++◌, length, get_or, take, drop, replicate, refl, ap, sym, ◌∙◌, arith, append-nil}
use Rattle.std.proofs.lemmas.Bool.Decides.{nat_tests}
use Rattle.core_expr.specs.Tree.{Tree, true_, eq_, in_, iff_, or_, and_, false_, apply_, num_, enum_, tuple_}
use Rattle.core_expr.specs.Heads.{kind_at, kind_table, parts_of}
use Rattle.core_expr.specs.Nodes.{AreBelow, picked, node_make, trees_from}
use Rattle.seq_calculus.specs.Schemas.{join, join_from, equal_pairs, equals_each, about_enumeration, about_tuples, about_entry, tuple_meaning}
use Rattle.seq_calculus.proofs.Listed.{pairs_step, pairs_all, join_step}
use Rattle.term_bank.specs.Banks.{Extends, HasTree, tree_at}
use Rattle.term_bank.proofs.TableLaws.{length-picked, AreBelow-more}
use Rattle.term_bank.proofs.InstLaws.{Extends-trans}
use Rattle.proof_checker.specs.Tables.{ArePlaced, cells_of}
use Rattle.proof_checker.specs.Schemas.{last}
use Rattle.proof_checker.specs.declared.tuple.TheConstants.{MEMBERSHIP, EQUALITY, ENTRY}
use Rattle.proof_checker.proofs.SideLaws.{longer, tree-extend}
use Rattle.proof_checker.proofs.NodeLaws.{picked-same, placed_push}

-- a tree of a list of trees
pub picked-read : (ts : List Tree) (is : List ℕ) (i a : ℕ) → i < length is → a ≡ get_or is i 0 → tree_at ts a ≡ get_or (picked ts is) i (tree_at ts a)
picked-read ts [] i a l e = absurd (omega arith)
picked-read ts (j ∷ is) zero a l e = ap (tree_at ts) e
picked-read ts (j ∷ is) (suc i) a l e = picked-read ts is i a (omega arith) e

pub below_later : (ts ts' : List Tree) (is : List ℕ) (i a : ℕ) → Extends ts ts' → AreBelow (length ts) is → i < length is → a ≡ get_or is i 0 → a < length ts'
below_later ts ts' [] i a x b l e = absurd (omega arith)
below_later ts ts' (j ∷ is) zero a x b l e = let m = longer ts ts' x in let k : j < length ts = b.0 in omega arith
below_later ts ts' (j ∷ is) (suc i) a x b l e = below_later ts ts' is i a x b.1 (omega arith) e

pub equation_step : (ts ts1 ts2 : List Tree) (left right out out' : List ℕ) (i a b k : ℕ) → length left ≡ length right → i < length left → AreBelow (length ts) left → AreBelow (length ts) right → Extends ts ts1 → Extends ts1 ts2 → a ≡ get_or left i 0 → b ≡ get_or right i 0 → HasTree ts2 k (eq_ (tree_at ts1 a) (tree_at ts1 b)) → out' ≡ out ++ k ∷ [] → ArePlaced ts1 (equal_pairs (take i (picked ts left)) (take i (picked ts right))) out → ArePlaced ts2 (equal_pairs (take (i + 1) (picked ts left)) (take (i + 1) (picked ts right))) out'
equation_step ts ts1 ts2 left right out out' i a b k n l bl br x y ea eb h e p =
    let la : a < length ts = below_later ts ts left i a ([], sym (append-nil ts)) bl l ea in
    let m : i < length right = omega arith in
    let lb : b < length ts = below_later ts ts right i b ([], sym (append-nil ts)) br m eb in
    let t : HasTree ts2 k (eq_ (tree_at ts a) (tree_at ts b)) = coe 0 1 (j. HasTree ts2 k (eq_ (tree-extend ts ts1 a x la j) (tree-extend ts ts1 b x lb j))) h in
    let w = placed_push ts1 ts2 (equal_pairs (take i (picked ts left)) (take i (picked ts right))) out out' k (eq_ (tree_at ts a) (tree_at ts b)) y p t e in
    record {
      below = w.below;
      trees = w.trees ∙ pairs_step (picked ts left) (picked ts right) i (tree_at ts a) (tree_at ts b) (eq_ (tree_at ts a) (tree_at ts b)) (equal_pairs (take i (picked ts left)) (take i (picked ts right))) (equal_pairs (take i (picked ts left)) (take i (picked ts right)) ++ eq_ (tree_at ts a) (tree_at ts b) ∷ []) (length-picked ts left ∙ n ∙ sym (length-picked ts right)) (omega (arith, length-picked ts left)) (picked-read ts left i a l ea) (picked-read ts right i b m eb) refl refl refl;
    }

pub equations_end : (ts ts' : List Tree) (left right out : List ℕ) (i : ℕ) → length left ≡ length right → length left ≤ i → ArePlaced ts' (equal_pairs (take i (picked ts left)) (take i (picked ts right))) out → ArePlaced ts' (equal_pairs (picked ts left) (picked ts right)) out
equations_end ts ts' left right out i n l p = record {
  below = p.below;
  trees = pairs_all (picked ts left) (picked ts right) (picked ts' out) i (length-picked ts left ∙ n ∙ sym (length-picked ts right)) (omega (arith, length-picked ts left)) p.trees;
}

-- joining
pub joined_step : (op : Tree → Tree → Tree) (ts ts1 ts2 : List Tree) (items : List ℕ) (i a j k : ℕ) → i < length items → AreBelow (length ts) items → Extends ts ts1 → a ≡ get_or items i 0 → (t : Tree) → HasTree ts1 j (join_from op t (take i (picked ts items))) → HasTree ts2 k (op (tree_at ts1 j) (tree_at ts1 a)) → HasTree ts2 k (join_from op t (take (i + 1) (picked ts items)))
joined_step op ts ts1 ts2 items i a j k l b x e t h w = record {
  within = w.within;
  tree =
      let la : a < length ts = below_later ts ts items i a ([], sym (append-nil ts)) b l e in
      join_step op t (picked ts items) i (tree_at ts a) (tree_at ts1 j) (tree_at ts2 k) (omega (arith, length-picked ts items)) (picked-read ts items i a l e) h.tree (w.tree ∙ ap (op (tree_at ts1 j)) (tree-extend ts ts1 a x la));
}

pub joined_all : (op : Tree → Tree → Tree) (none : Tree) (ts ts1 : List Tree) (items rest : List ℕ) (a j : ℕ) → 0 < length items → a ≡ get_or items 0 0 → rest ≡ drop 1 items → HasTree ts1 j (join_from op (tree_at ts a) (picked ts rest)) → HasTree ts1 j (join op none (picked ts items))
joined_all op none ts ts1 [] rest a j l e r h = absurd (omega arith)
joined_all op none ts ts1 (x ∷ items) rest a j l e r h = coe 0 1 (i. HasTree ts1 j (join_from op (tree_at ts (e i)) (picked ts (r i)))) h

pub no_items : (op : Tree → Tree → Tree) (none : Tree) (ts : List Tree) (items : List ℕ) → length items ≡ 0 → join op none (picked ts items) ≡ none
no_items op none ts [] e = refl
no_items op none ts (x ∷ items) e = absurd (omega arith)

-- one term with each
pub each_pair : (ts : List Tree) (t : ℕ) (es : List ℕ) → equal_pairs (picked ts (replicate (length es) t)) (picked ts es) ≡ equals_each (tree_at ts t) (picked ts es)
each_pair ts t [] = refl
each_pair ts t (e ∷ es) = ap (λ us. eq_ (tree_at ts t) (tree_at ts e) ∷ us) (each_pair ts t es)

later : (ts ts' : List Tree) (k : ℕ) (t : Tree) → Extends ts ts' → HasTree ts k t → tree_at ts' k ≡ t
later ts ts' k t x h = tree-extend ts ts' k x h.within ∙ h.tree

pub enumeration_made : (ts ts1 ts2 ts3 : List Tree) (term set meaning k : ℕ) (es terms : List ℕ) → term < length ts → AreBelow (length ts) es → Extends ts ts1 → Extends ts1 ts2 → terms ≡ replicate (length es) term → HasTree ts1 set (node_make 17 (length es ∷ []) (picked ts es)) → HasTree ts2 meaning (join (λ a b. node_make 9 [] (a ∷ b ∷ [])) (node_make 1 [] []) (equal_pairs (picked ts1 terms) (picked ts1 es))) → HasTree ts3 k (last (trees_from (picked ts2 (term ∷ set ∷ meaning ∷ [])) (cells_of MEMBERSHIP))) → HasTree ts3 k (about_enumeration (tree_at ts term) (picked ts es))
unfolding kind_at kind_table
enumeration_made ts ts1 ts2 ts3 term set meaning k es terms l b x y e hs hm h =
    let p : tree_at ts2 term ≡ tree_at ts term = tree-extend ts ts2 term (Extends-trans ts ts1 ts2 x y) l in
    let q : tree_at ts2 set ≡ enum_ (parts_of (picked ts es)) = later ts1 ts2 set (enum_ (parts_of (picked ts es))) y hs in
    let r : equal_pairs (picked ts1 terms) (picked ts1 es) ≡ equals_each (tree_at ts term) (picked ts es) = ap (λ us. equal_pairs (picked ts1 us) (picked ts1 es)) e ∙ each_pair ts1 term es ∙ (λ i. equals_each (tree-extend ts ts1 term x l i) (picked-same ts ts1 es x b i)) in
    let s : tree_at ts2 meaning ≡ join (λ a b. or_ a b) false_ (equals_each (tree_at ts term) (picked ts es)) = hm.tree ∙ ap (join (λ a b. or_ a b) false_) r in
    record { within = h.within; tree = h.tree ∙ (λ i. iff_ (in_ (p i) (q i)) (s i)) }

pub tuples_made : (ts ts1 ts2 ts3 ts4 : List Tree) (first second meaning k : ℕ) (ls rs : List ℕ) → AreBelow (length ts) ls → AreBelow (length ts) rs → Extends ts ts1 → Extends ts1 ts2 → Extends ts2 ts3 → HasTree ts1 first (node_make 30 (length ls ∷ []) (picked ts ls)) → HasTree ts2 second (node_make 30 (length rs ∷ []) (picked ts1 rs)) → HasTree ts3 meaning (tuple_meaning (picked ts2 ls) (picked ts2 rs)) → HasTree ts4 k (last (trees_from (picked ts3 (first ∷ second ∷ meaning ∷ [])) (cells_of EQUALITY))) → HasTree ts4 k (about_tuples (picked ts ls) (picked ts rs))
unfolding kind_at kind_table
tuples_made ts ts1 ts2 ts3 ts4 first second meaning k ls rs bl br x y z hf hs hm h =
    let xy = Extends-trans ts ts1 ts2 x y in
    let p : tree_at ts3 first ≡ tuple_ (parts_of (picked ts ls)) = later ts1 ts3 first (tuple_ (parts_of (picked ts ls))) (Extends-trans ts1 ts2 ts3 y z) hf in
    let q : tree_at ts3 second ≡ tuple_ (parts_of (picked ts rs)) = later ts2 ts3 second (tuple_ (parts_of (picked ts1 rs))) z hs ∙ ap (λ us. tuple_ (parts_of us)) (picked-same ts ts1 rs x br) in
    let r : tree_at ts3 meaning ≡ tuple_meaning (picked ts ls) (picked ts rs) = hm.tree ∙ (λ i. tuple_meaning (picked-same ts ts2 ls xy bl i) (picked-same ts ts2 rs xy br i)) in
    record { within = h.within; tree = h.tree ∙ (λ i. iff_ (eq_ (p i) (q i)) (r i)) }

pub entry_made : (ts ts1 ts2 ts3 : List Tree) (tuple numeral entry k number : ℕ) (es : List ℕ) → entry < length ts → Extends ts ts1 → Extends ts1 ts2 → HasTree ts1 tuple (node_make 30 (length es ∷ []) (picked ts es)) → HasTree ts2 numeral (node_make 2 (0 ∷ number ∷ []) []) → HasTree ts3 k (last (trees_from (picked ts2 (tuple ∷ numeral ∷ entry ∷ [])) (cells_of ENTRY))) → HasTree ts3 k (about_entry (picked ts es) number (tree_at ts entry))
unfolding kind_at kind_table
entry_made ts ts1 ts2 ts3 tuple numeral entry k number es l x y ht hn h =
    let p : tree_at ts2 tuple ≡ tuple_ (parts_of (picked ts es)) = later ts1 ts2 tuple (tuple_ (parts_of (picked ts es))) y ht in
    let q : tree_at ts2 numeral ≡ num_ 0 number = hn.tree in
    let r : tree_at ts2 entry ≡ tree_at ts entry = tree-extend ts ts2 entry (Extends-trans ts ts1 ts2 x y) l in
    record { within = h.within; tree = h.tree ∙ (λ i. eq_ (apply_ (p i) (q i)) (r i)) }

-- what the equality of two tuples means
pub meaning_alike : (ls rs : List Tree) → length ls ≡ length rs → tuple_meaning ls rs ≡ join (λ a b. and_ a b) true_ (equal_pairs ls rs)
meaning_alike ls rs e = let t : nat_eq (length ls) (length rs) ≡ true = grind (arith, nat_tests) in ap (λ b. cond b (join (λ a b. and_ a b) true_ (equal_pairs ls rs)) false_) t

pub meaning_apart : (ls rs : List Tree) → ¬ (length ls ≡ length rs) → tuple_meaning ls rs ≡ false_
meaning_apart ls rs n = let f : nat_eq (length ls) (length rs) ≡ false = grind (arith, nat_tests) in ap (λ b. cond b (join (λ a b. and_ a b) true_ (equal_pairs ls rs)) false_) f

pub below_replicate : (n k t : ℕ) → t < n → AreBelow n (replicate k t)
below_replicate n zero t l = tt
below_replicate n (suc k) t l = (l, below_replicate n k t l)

pub below_grown : (ts ts' : List Tree) (is : List ℕ) → Extends ts ts' → AreBelow (length ts) is → AreBelow (length ts') is
below_grown ts ts' is x b = AreBelow-more (length ts) (length ts') is (longer ts ts' x) b
