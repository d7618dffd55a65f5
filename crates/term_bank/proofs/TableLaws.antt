-- Laws of banks.
use Rattle.std.proofs.Common.{◌≡◌, ℕ, zero, suc, ◌+◌, ◌-◌, ◌<◌, ◌≤◌, Bool, true, List, [], ◌∷◌, ◌++◌, length, get_or, take, refl, ap, sym, ◌∙◌, arith, rules, subst, IsTrue, inl, inr}
use Rattle.std.proofs.lemmas.List.{get_or_append_left, get_or_push, length_push}
use Rattle.std.proofs.lemmas.Bool.{cases_lt}
use Rattle.core_expr.specs.Tree.{Tree, true_}
use Rattle.core_expr.specs.Heads.{front, back, subtrees, kind_number}
use Rattle.core_expr.specs.Places.{kind_of, root_numbers}
use Rattle.core_expr.specs.Nodes.{Node, node_kind, node_numbers, node_fits, picked, tree_over, trees_from, trees_of, AreBelow, IsNode}
use Rattle.term_bank.specs.Banks.{no_node, IsDistinct, IsBank}
use Rattle.core_expr.specs.Loose.{loose}
use Rattle.core_expr.specs.Laws.{ShowsNode}
use Rattle.core_expr.proofs.NodeLaws.{node-shows}
use Rattle.term_bank.specs.Loose.{loose_over}
use Rattle.term_bank.proofs.NodeLaws.{loose-made}

length-trees_from : (ts : List Tree) (ns : List Node) → length (trees_from ts ns) ≡ length ts + length ns
length-trees_from ts [] = omega arith
length-trees_from ts (n ∷ ns) = omega (arith, length-trees_from (ts ++ tree_over ts n ∷ []) ns, length_push ts (tree_over ts n))

pub length-trees_of : (ns : List Node) → length (trees_of ns) ≡ length ns
length-trees_of ns = omega (arith, length-trees_from [] ns)

trees_from-push : (ts : List Tree) (ns : List Node) (n : Node) → trees_from ts (ns ++ n ∷ []) ≡ trees_from ts ns ++ tree_over (trees_from ts ns) n ∷ []
trees_from-push ts [] n = refl
trees_from-push ts (m ∷ ns) n = trees_from-push (ts ++ tree_over ts m ∷ []) ns n

pub trees_of-push : (ns : List Node) (n : Node) → trees_of (ns ++ n ∷ []) ≡ trees_of ns ++ tree_over (trees_of ns) n ∷ []
trees_of-push ns n = trees_from-push [] ns n

pub length-picked : (ts : List Tree) (ps : List ℕ) → length (picked ts ps) ≡ length ps
length-picked ts [] = refl
length-picked ts (p ∷ ps) = ap suc (length-picked ts ps)

pub AreBelow-more : (m n : ℕ) (ps : List ℕ) → m ≤ n → AreBelow m ps → AreBelow n ps
AreBelow-more m n [] h b = tt
AreBelow-more m n (p ∷ ps) h b = let l : p < m = b.0 in (omega arith, AreBelow-more m n ps h b.1)

pub picked-extend : (ts us : List Tree) (ps : List ℕ) → AreBelow (length ts) ps → picked (ts ++ us) ps ≡ picked ts ps
picked-extend ts us [] b = refl
picked-extend ts us (p ∷ ps) b = λ i. get_or_append_left ts us true_ p b.0 i ∷ picked-extend ts us ps b.1 i

same_picked : (ts : List Tree) (ps qs : List ℕ) → IsDistinct ts → AreBelow (length ts) ps → AreBelow (length ts) qs → picked ts ps ≡ picked ts qs → ps ≡ qs
same_picked ts [] [] d b c e = refl
same_picked ts [] (q ∷ qs) d b c e = cc
same_picked ts (p ∷ ps) [] d b c e = cc
same_picked ts (p ∷ ps) (q ∷ qs) d b c e =
    let e0 : get_or ts p true_ ≡ get_or ts q true_ = cc in
    let e1 : picked ts ps ≡ picked ts qs = cc in
    λ i. d p q b.0 c.0 e0 i ∷ same_picked ts ps qs d b.1 c.1 e1 i

pub is_true : (b : Bool) → IsTrue b → b ≡ true
is_true b h = search rules

pub fits-picked : (ts : List Tree) (n : Node) → IsTrue (node_fits n.head n.numbers (length n.parts)) → node_fits n.head n.numbers (length (picked ts n.parts)) ≡ true
fits-picked ts n f = ap (node_fits n.head n.numbers) (length-picked ts n.parts) ∙ is_true _ f

-- the node of a tree is known by the tree
pub same_nodes : (ts : List Tree) (m n : Node) → IsDistinct ts → IsNode m (length ts) → IsNode n (length ts) → tree_over ts m ≡ tree_over ts n → m ≡ n
same_nodes ts m n d a b e =
    let sm : ShowsNode m.head m.numbers (picked ts m.parts) (tree_over ts m) = node-shows m.head m.numbers (picked ts m.parts) (fits-picked ts m a.0) in
    let sn : ShowsNode n.head n.numbers (picked ts n.parts) (tree_over ts n) = node-shows n.head n.numbers (picked ts n.parts) (fits-picked ts n b.0) in
    let h : m.head ≡ n.head = sym sm.head_is ∙ ap (λ t. kind_number (kind_of t)) e ∙ sn.head_is in
    let s : m.numbers ≡ n.numbers = sym sm.numbers_are ∙ ap (λ t. node_numbers (kind_of t) (root_numbers t)) e ∙ sn.numbers_are in
    let p : m.parts ≡ n.parts = same_picked ts m.parts n.parts d a.1 b.1 (sym sm.parts_are ∙ ap subtrees e ∙ sn.parts_are) in
    λ i. record { head = h i; numbers = s i; parts = p i }

pub IsNode-more : (n : Node) (i j : ℕ) → i ≤ j → IsNode n i → IsNode n j
IsNode-more n i j h a = (a.0, AreBelow-more i j n.parts h a.1)

pub IsBank-none : IsBank [] []
IsBank-none = record {
  count = refl;
  form = λ i h. absurd (omega arith);
  tree = λ i h. absurd (omega arith);
  distinct = λ i j h k e. absurd (omega arith);
}

pub IsBank-push : (ns : List Node) (ts : List Tree) (n : Node) → IsBank ns ts → IsNode n (length ns) → ((i : ℕ) → i < length ns → get_or ns i no_node ≡ n → ⊥) → IsBank (ns ++ n ∷ []) (ts ++ tree_over ts n ∷ [])
IsBank-push ns ts n b a none = record { count = c; form = form; tree = tree; distinct = distinct }
  where
    t : Tree
    t = tree_over ts n

    a' : IsNode n (length ts)
    a' = subst (λ k. IsNode n k) (sym b.count) a

    c : length (ts ++ t ∷ []) ≡ length (ns ++ n ∷ [])
    c = omega (arith, length_push ts t, length_push ns n, b.count)

    old_node : (i : ℕ) → i < length ns → get_or (ns ++ n ∷ []) i no_node ≡ get_or ns i no_node
    old_node i h = get_or_append_left ns (n ∷ []) no_node i h

    old_tree : (i : ℕ) → i < length ts → get_or (ts ++ t ∷ []) i true_ ≡ get_or ts i true_
    old_tree i h = get_or_append_left ts (t ∷ []) true_ i h

    form : (i : ℕ) → i < length (ns ++ n ∷ []) → IsNode (get_or (ns ++ n ∷ []) i no_node) i
    form i h =
        elim (cases_lt i (length ns)) [
          | inl l ↦ subst (λ m. IsNode m i) (sym (old_node i l)) (b.form i l)
          | inr g ↦ let e : length ns ≡ i = omega (arith, length_push ns n) in subst (λ m. IsNode m i) (sym (get_or_push ns n no_node i e)) (subst (λ k. IsNode n k) e a)
        ]

    tree : (i : ℕ) → i < length (ns ++ n ∷ []) → get_or (ts ++ t ∷ []) i true_ ≡ tree_over (ts ++ t ∷ []) (get_or (ns ++ n ∷ []) i no_node)
    tree i h =
        elim (cases_lt i (length ns)) [
          | inl l ↦
              let bw = AreBelow-more i (length ts) (get_or ns i no_node).parts (omega (arith, b.count)) (b.form i l).1 in
              rw (old_node i l, old_tree i (omega (arith, b.count)), picked-extend ts (t ∷ []) (get_or ns i no_node).parts bw) (b.tree i l)
          | inr g ↦
              let e : length ns ≡ i = omega (arith, length_push ns n) in
              rw (get_or_push ns n no_node i e, get_or_push ts t true_ i (b.count ∙ e), picked-extend ts (t ∷ []) n.parts a'.1)
        ]

    fresh : (i : ℕ) → i < length ts → get_or ts i true_ ≡ t → ⊥
    fresh i h e =
        let l : i < length ns = omega (arith, b.count) in
        none i l (same_nodes ts (get_or ns i no_node) n b.distinct (IsNode-more (get_or ns i no_node) i (length ts) (omega (arith, b.count)) (b.form i l)) a' (sym (b.tree i l) ∙ e))

    distinct : IsDistinct (ts ++ t ∷ [])
    distinct i j h k e =
        elim (cases_lt i (length ts)) [
          | inl p ↦ elim (cases_lt j (length ts)) [
            | inl q ↦ b.distinct i j p q (sym (old_tree i p) ∙ e ∙ old_tree j q)
            | inr q ↦ let l : length ts ≡ j = omega (arith, length_push ts t) in absurd (fresh i p (sym (old_tree i p) ∙ e ∙ get_or_push ts t true_ j l))
          ]
          | inr p ↦ elim (cases_lt j (length ts)) [
            | inl q ↦ let l : length ts ≡ i = omega (arith, length_push ts t) in absurd (fresh j q (sym (old_tree j q) ∙ sym e ∙ get_or_push ts t true_ i l))
            | inr q ↦ omega (arith, length_push ts t)
          ]
        ]

pub AreBelow-at : (n : ℕ) (ps : List ℕ) (k : ℕ) → AreBelow n ps → k < length ps → get_or ps k 0 < n
AreBelow-at n [] k b h = absurd (omega arith)
AreBelow-at n (p ∷ ps) zero b h = b.0
AreBelow-at n (p ∷ ps) (suc k) b h = AreBelow-at n ps k b.1 (omega arith)

pub AreBelow-take : (n k : ℕ) (ps : List ℕ) → AreBelow n ps → AreBelow n (take k ps)
AreBelow-take n zero ps b = tt
AreBelow-take n (suc k) [] b = tt
AreBelow-take n (suc k) (p ∷ ps) b = (b.0, AreBelow-take n k ps b.1)

pub front-picked : (ts : List Tree) (ps : List ℕ) → 0 < length ps → front (picked ts ps) ≡ picked ts (take (length ps - 1) ps)
front-picked ts [] h = absurd (omega arith)
front-picked ts (p ∷ []) h = refl
front-picked ts (p ∷ q ∷ ps) h =
    let e : length (p ∷ q ∷ ps) - 1 ≡ suc (length (q ∷ ps) - 1) = omega arith in
    rw e (ap (λ us. get_or ts p true_ ∷ us) (front-picked ts (q ∷ ps) (omega arith)))

pub back-picked : (ts : List Tree) (ps : List ℕ) → 0 < length ps → back (picked ts ps) ≡ get_or ts (get_or ps (length ps - 1) 0) true_
back-picked ts [] h = absurd (omega arith)
back-picked ts (p ∷ []) h = refl
back-picked ts (p ∷ q ∷ ps) h =
    let e : length (p ∷ q ∷ ps) - 1 ≡ suc (length (q ∷ ps) - 1) = omega arith in
    rw e (back-picked ts (q ∷ ps) (omega arith))

pub loose-over : (ts : List Tree) (n : Node) → loose (tree_over ts n) ≡ loose_over (node_kind n.head n.numbers) n.numbers (picked ts n.parts)
loose-over ts n = loose-made (node_kind n.head n.numbers) n.numbers (picked ts n.parts)

pub AreBelow-read : (n : ℕ) (ps : List ℕ) (k r : ℕ) → AreBelow n ps → k < length ps → r ≡ get_or ps k r → r < n
AreBelow-read n [] k r b h e = absurd (omega arith)
AreBelow-read n (p ∷ ps) zero r b h e = subst (λ x. x < n) (sym e) b.0
AreBelow-read n (p ∷ ps) (suc k) r b h e = AreBelow-read n ps k r b.1 (omega arith) e
