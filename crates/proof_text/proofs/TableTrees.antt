-- The tree of each node of a table is the node over the trees of its parts.
use Rattle.std.proofs.Common.{◌≡◌, ℕ, zero, suc, ◌+◌, ◌<◌, Bool, true, false, nat_eq, eq-eqb, List, [], ◌∷◌, ◌++◌, length, get_or, take, refl, ap, sym, ◌∙◌, subst, arith, append_assoc, append-nil, length-append}
use Rattle.std.proofs.lemmas.List.{take_more}
use Rattle.std.specs.Prelude.{IsTrue}
use Rattle.std.proofs.lemmas.Bool.{and_from, eqb-true}
use Rattle.core_expr.specs.Tree.{Tree, true_}
use Rattle.core_expr.specs.Heads.{IsWellFormed, IsCanonical, are_well_formed, are_canonical, parts_of}
use Rattle.core_expr.specs.Laws.{NodeIsCanonical}
use Rattle.proof_text.specs.Texts.{AreCanonical}
use Rattle.core_expr.specs.Nodes.{Node, node_fits, node_make, IsNode, AreBelow, AreNodes, picked, tree_over, trees_from, trees_of}

at-front : (ts us : List Tree) (i : ℕ) → i < length ts → get_or (ts ++ us) i true_ ≡ get_or ts i true_
at-front [] us i l = absurd (omega arith)
at-front (t ∷ ts) us zero l = refl
at-front (t ∷ ts) us (suc i) l = at-front ts us i (omega arith)

at-seam : (ts us : List Tree) (t : Tree) → get_or (ts ++ t ∷ us) (length ts) true_ ≡ t
at-seam [] us t = refl
at-seam (u ∷ ts) us t = at-seam ts us t

picked-front : (ts us : List Tree) (is : List ℕ) → AreBelow (length ts) is → picked (ts ++ us) is ≡ picked ts is
picked-front ts us [] b = refl
picked-front ts us (i ∷ is) b = λ j. at-front ts us i b.0 j ∷ picked-front ts us is b.1 j

trees-more : (ts : List Tree) (ns : List Node) → (us : List Tree) × (trees_from ts ns ≡ ts ++ us) × (length us ≡ length ns)
trees-more ts [] = ([], sym (append-nil ts), refl)
trees-more ts (n ∷ ns) =
    let m = trees-more (ts ++ tree_over ts n ∷ []) ns in
    (tree_over ts n ∷ m.0, m.1 ∙ append_assoc ts (tree_over ts n ∷ []) m.0, ap suc m.2)

pub trees-count : (ns : List Node) → length (trees_of ns) ≡ length ns
trees-count ns = let m = trees-more [] ns in ap length m.1 ∙ m.2

trees-at : (ts : List Tree) (ns : List Node) (d : Node) (i k : ℕ) → k ≡ length ts + i → AreNodes (length ts) ns → i < length ns → get_or (trees_from ts ns) k true_ ≡ tree_over (trees_from ts ns) (get_or ns i d)
trees-at ts [] d i k e a l = absurd (omega arith)
trees-at ts (n ∷ ns) d zero k e a l =
    let m = trees-more (ts ++ tree_over ts n ∷ []) ns in
    let w : trees_from (ts ++ tree_over ts n ∷ []) ns ≡ ts ++ tree_over ts n ∷ m.0 = m.1 ∙ append_assoc ts (tree_over ts n ∷ []) m.0 in
    let f : k ≡ length ts = omega arith in
    (λ j. get_or (w j) (f j) true_) ∙ at-seam ts m.0 (tree_over ts n)
    ∙ over n (sym (picked-front ts (tree_over ts n ∷ m.0) n.parts a.0.1)) ∙ ap (λ us. tree_over us n) (sym w)
  where
    over : (n : Node) → (e : picked ts n.parts ≡ picked (ts ++ tree_over ts n ∷ (trees-more (ts ++ tree_over ts n ∷ []) ns).0) n.parts) → tree_over ts n ≡ tree_over (ts ++ tree_over ts n ∷ (trees-more (ts ++ tree_over ts n ∷ []) ns).0) n
    over n e = ap (λ ps. node_make n.head n.numbers ps) e
trees-at ts (n ∷ ns) d (suc i) k e a l =
    let c : suc (length ts) ≡ length (ts ++ tree_over ts n ∷ []) = omega (arith, length-append ts (tree_over ts n ∷ [])) in
    trees-at (ts ++ tree_over ts n ∷ []) ns d i k (omega (arith, c, e)) (subst (λ j. AreNodes j ns) c a.1) (omega arith)

pub tree-at : (ns : List Node) (d : Node) (i : ℕ) → AreNodes 0 ns → i < length ns → get_or (trees_of ns) i true_ ≡ tree_over (trees_of ns) (get_or ns i d)
tree-at ns d i a l = trees-at [] ns d i i (omega arith) a l

pub length-picked : (ts : List Tree) (is : List ℕ) → length (picked ts is) ≡ length is
length-picked ts [] = refl
length-picked ts (i ∷ is) = ap suc (length-picked ts is)

pub picked-at : (ts : List Tree) (is : List ℕ) (k : ℕ) → k < length is → get_or (picked ts is) k true_ ≡ get_or ts (get_or is k 0) true_
picked-at ts [] k l = absurd (omega arith)
picked-at ts (i ∷ is) zero l = refl
picked-at ts (i ∷ is) (suc k) l = picked-at ts is k (omega arith)

pub node-form : (ns : List Node) (d : Node) (j i : ℕ) → AreNodes j ns → i < length ns → IsNode (get_or ns i d) (j + i)
node-form [] d j i a l = absurd (omega arith)
node-form (n ∷ ns) d j zero a l = let e : j ≡ j + 0 = omega arith in subst (IsNode n) e a.0
node-form (n ∷ ns) d j (suc i) a l = let e : suc j + i ≡ j + suc i = omega arith in subst (IsNode (get_or ns i d)) e (node-form ns d (suc j) i a.1 (omega arith))

pub picked_step : (ts : List Tree) (is : List ℕ) (k : ℕ) (old new : List Tree) (t : Tree) → k < length is → old ≡ picked ts (take k is) → t ≡ get_or ts (get_or is k 0) true_ → new ≡ old ++ t ∷ [] → new ≡ picked ts (take (k + 1) is)
picked_step ts is k old new t l e f g = g ∙ (λ j. e j ++ f j ∷ []) ∙ sym (picked-more (take k is) (get_or is k 0)) ∙ ap (picked ts) (sym (take_more is k 0 l))
  where
    picked-more : (is : List ℕ) (i : ℕ) → picked ts (is ++ i ∷ []) ≡ picked ts is ++ get_or ts i true_ ∷ []
    picked-more [] i = refl
    picked-more (j ∷ is) i = ap (λ us. get_or ts j true_ ∷ us) (picked-more is i)

pub below-at : (k : ℕ) (is : List ℕ) (j : ℕ) → AreBelow k is → j < length is → get_or is j 0 < k
below-at k [] j b l = absurd (omega arith)
below-at k (i ∷ is) zero b l = b.0
below-at k (i ∷ is) (suc j) b l = below-at k is j b.1 (omega arith)

-- ---- the trees of a table are well formed and canonical

abbrev AreGood : List Tree → Type 0
AreGood ts = (i : ℕ) → i < length ts → IsWellFormed (get_or ts i true_) × IsCanonical (get_or ts i true_)

good-parts : (ts : List Tree) (is : List ℕ) → AreGood ts → AreBelow (length ts) is → IsTrue (are_well_formed (parts_of (picked ts is))) × IsTrue (are_canonical (parts_of (picked ts is)))
good-parts ts [] g b = (refl, refl)
good-parts ts (i ∷ is) g b = let p = g i b.0 in let q = good-parts ts is g b.1 in (and_from _ _ p.0 q.0, and_from _ _ p.1 q.1)

good-more : NodeIsCanonical → (ts : List Tree) (n : Node) → AreGood ts → IsNode n (length ts) → AreGood (ts ++ tree_over ts n ∷ [])
good-more law ts n g h i l = go (nat_eq i (length ts)) refl
  where
    go : (b : Bool) → nat_eq i (length ts) ≡ b → IsWellFormed (get_or (ts ++ tree_over ts n ∷ []) i true_) × IsCanonical (get_or (ts ++ tree_over ts n ∷ []) i true_)
    go true e =
        let p = good-parts ts n.parts g h.1 in
        let w = law n.head n.numbers (picked ts n.parts) (subst (λ k. IsTrue (node_fits n.head n.numbers k)) (sym (length-picked ts n.parts)) h.0) p.0 p.1 in
        let q : tree_over ts n ≡ get_or (ts ++ tree_over ts n ∷ []) i true_ = sym (at-seam ts [] (tree_over ts n)) ∙ ap (λ i. get_or (ts ++ tree_over ts n ∷ []) i true_) (sym (eqb-true i (length ts) e)) in
        (subst IsWellFormed q w.0, subst IsCanonical q w.1)
    go false e =
        let ne : i ≡ length ts → ⊥ = (λ z. (let b : nat_eq i (length ts) ≡ true = eq-eqb i (length ts) z in cc)) in
        let lt : i < length ts = omega (arith, l, ne, length-append ts (tree_over ts n ∷ [])) in
        let p = g i lt in
        let q = sym (at-front ts (tree_over ts n ∷ []) i lt) in
        (subst IsWellFormed q p.0, subst IsCanonical q p.1)

good-from : NodeIsCanonical → (ts : List Tree) (ns : List Node) → AreGood ts → AreNodes (length ts) ns → AreGood (trees_from ts ns)
good-from law ts [] g a = g
good-from law ts (n ∷ ns) g a =
    let c : suc (length ts) ≡ length (ts ++ tree_over ts n ∷ []) = omega (arith, length-append ts (tree_over ts n ∷ [])) in
    good-from law (ts ++ tree_over ts n ∷ []) ns (good-more law ts n g a.0) (subst (λ j. AreNodes j ns) c a.1)

pub canonical-at : NodeIsCanonical → (ns : List Node) (i : ℕ) → AreNodes 0 ns → i < length ns → IsCanonical (get_or (trees_of ns) i true_)
canonical-at law ns i a l = (good-from law [] ns (λ i l. absurd (omega arith)) a i (omega (arith, trees-count ns))).1

pub canonical-picked : NodeIsCanonical → (ns : List Node) (is : List ℕ) → AreNodes 0 ns → AreBelow (length ns) is → AreCanonical (picked (trees_of ns) is)
canonical-picked law ns [] a b = tt
canonical-picked law ns (i ∷ is) a b = (canonical-at law ns i a b.0, canonical-picked law ns is a b.1)
