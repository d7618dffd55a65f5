-- The trees of nodes in a bank that grows.
use Rattle.std.proofs.Common.{◌≡◌, ℕ, ◌<◌, true, List, [], ◌∷◌, length, map, get_or, refl, ap, sym, ◌∙◌, arith, subst, inl, inr}
use Rattle.core_expr.specs.Tree.{Tree, true_}
use Rattle.core_expr.specs.Terms.{same}
use Rattle.core_expr.proofs.Equal.{same-true, same-refl}
use Rattle.core_expr.specs.Nodes.{Node, AreBelow, node_make, picked, tree_over}
use Rattle.term_bank.specs.Banks.{IsDistinct, Extends, HasNode, HasTree}
use Rattle.term_bank.specs.Images.{In}
use Rattle.term_bank.proofs.TableLaws.{AreBelow-more, picked-extend, same_nodes}
use Rattle.term_bank.proofs.InstLaws.{same_tree, longer}

pub HasTree-more : (ts now : List Tree) (k : ℕ) (t : Tree) → Extends ts now → HasTree ts k t → HasTree now k t
HasTree-more ts now k t x h =
    let l = longer ts now x in
    let w = h.within in
    record { within = omega (arith, l, w); tree = same_tree ts now k x h.within ∙ h.tree }

pub HasNode-more : (ts now : List Tree) (i : ℕ) (n : Node) → Extends ts now → HasNode ts i n → HasNode now i n
HasNode-more ts now i n x h =
    let l = longer ts now x in
    let w = h.within in
    record {
      within = omega (arith, l, w);
      node = (h.node.0, AreBelow-more (length ts) (length now) n.parts l h.node.1);
      tree = same_tree ts now i x h.within ∙ h.tree ∙ sym (ap (λ us. node_over us) (picked-extend ts x.0 n.parts h.node.1)) ∙ ap (λ us. tree_over us n) (sym x.1);
    }
  where
    node_over : List Tree → Tree
    node_over us = node_make n.head n.numbers us

pub one_node : (ts : List Tree) (i : ℕ) (m n : Node) → IsDistinct ts → HasNode ts i m → HasNode ts i n → m ≡ n
one_node ts i m n d g h = same_nodes ts m n d g.node h.node (sym g.tree ∙ h.tree)

pub In-below : (n : ℕ) (ps : List ℕ) → AreBelow n ps → (q : ℕ) → In q ps → q < n
In-below n [] b q h = absurd h
In-below n (p ∷ ps) b q (inl e) = subst (λ x. x < n) (sym e) b.0
In-below n (p ∷ ps) b q (inr h) = In-below n ps b.1 q h

pub below-In : (n : ℕ) (ps : List ℕ) → ((q : ℕ) → In q ps → q < n) → AreBelow n ps
below-In n [] f = tt
below-In n (p ∷ ps) f = (f p (inl refl), below-In n ps (λ q h. f q (inr h)))

-- the trees at images
pub picked-map : (ts now : List Tree) (f : ℕ → ℕ) (g : Tree → Tree) (ps : List ℕ) → ((q : ℕ) → In q ps → get_or now (f q) true_ ≡ g (get_or ts q true_)) → picked now (map f ps) ≡ map g (picked ts ps)
picked-map ts now f g [] h = refl
picked-map ts now f g (p ∷ ps) h = λ i. h p (inl refl) i ∷ picked-map ts now f g ps (λ q m. h q (inr m)) i

-- the tests of trees in a bank are those of their indices
pub same-index : (ts : List Tree) (i j : ℕ) → IsDistinct ts → i < length ts → j < length ts → same (get_or ts i true_) (get_or ts j true_) ≡ true → i ≡ j
same-index ts i j d k l h = d i j k l (same-true (get_or ts i true_) (get_or ts j true_) h)

pub index-same : (ts : List Tree) (i j : ℕ) → i ≡ j → same (get_or ts i true_) (get_or ts j true_) ≡ true
index-same ts i j e = ap (λ k. same (get_or ts i true_) (get_or ts k true_)) (sym e) ∙ same-refl (get_or ts i true_)
