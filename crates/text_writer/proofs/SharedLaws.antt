-- The trees of nodes that share their parts, entered into another table.
use Rattle.std.proofs.Common.{◌≡◌, ℕ, ◌+◌, ◌<◌, Bool, true, false, nat_eq, List, [], ◌∷◌, ◌++◌, length, map, get_or, set, Option, Some, None, refl, ap, sym, ◌∙◌, subst, subst₂, arith, get_or-set_same, get_or-set_other, eq-eqb, eqb-true}
use Rattle.std.specs.Prelude.{IsTrue, slice_set}
use Rattle.std.proofs.lemmas.List.{length-map, length-set}
use Rattle.core_expr.specs.Tree.{Tree}
use Rattle.core_expr.specs.Nodes.{Node, AreBelow, picked, node_fits, node_make, tree_over}
use Rattle.core_expr.specs.Laws.{NodeShows, ShowsNode}
use Rattle.seq_calculus.specs.declared.lists.ProofNode.{ProofNode}
use Rattle.seq_calculus.specs.Lists.{node_of}
use Rattle.proof_text.specs.Frames.{no_node, parts_at}
use Rattle.proof_text.specs.Texts.{trees_in, tree_in}
use Rattle.proof_text.proofs.TableTrees.{tree-at, node-form, length-picked}
use Rattle.text_writer.specs.Tables.{Placed, AllPlaced, put, root, enter, enter_all}
use Rattle.text_writer.specs.Shared.{here, enter_last_first, last_first, place_of, AreNoted, ArePlaces}
use Rattle.text_writer.proofs.PutLaws.{Extends, same}
use Rattle.text_writer.proofs.EnterLaws.{here_all, extends, again, again-all, enter-listed}
use Rattle.text_writer.proofs.TreeLaws.{IsTable, node-at, below-wider, below-append}

pub enter-append : (ns : List ProofNode) (is js : List ℕ) (a : Placed) → enter_last_first ns (is ++ js) a ≡ enter_last_first ns is (enter_last_first ns js a)
enter-append ns [] js a = refl
enter-append ns (i ∷ is) js a = ap (λ (p : Placed). enter (tree_in ns i) p.nodes) (enter-append ns is js a)

-- the trees of nodes are entered from left to right
last_first-enters : (ns : List ProofNode) (is : List ℕ) (a : Placed) → (enter_last_first ns (last_first is) a).nodes ≡ (enter_all (picked (trees_in ns) is) a.nodes).nodes
last_first-enters ns [] a = refl
last_first-enters ns (i ∷ is) a =
    ap (λ (p : Placed). p.nodes) (enter-append ns (last_first is) (i ∷ []) a) ∙ last_first-enters ns is (enter (tree_in ns i) a.nodes)

-- the parts of a node, as trees
abbrev pub parts_in : List ProofNode → ℕ → List Tree
parts_in ns i = picked (trees_in ns) (parts_at ns i)

-- the node i over these places
abbrev pub node_at : List ProofNode → ℕ → List ℕ → ProofNode
node_at ns i ps = record { head = (get_or ns i no_node).head; numbers = (get_or ns i no_node).numbers; parts = ps }

-- the parts of a node stand before it
pub node-before : (ns : List ProofNode) → IsTable ns → (i : ℕ) → i < length ns → AreBelow i (parts_at ns i)
node-before ns h i l =
    let f = node-form (map node_of ns) (node_of no_node) 0 i h (omega (arith, l, length-map ns node_of)) in
    let e : 0 + i ≡ i = omega arith in
    subst₂ (λ k (n : Node). AreBelow k n.parts) e (node-at ns i) f.1

pub node-below : (ns : List ProofNode) → IsTable ns → (i : ℕ) → i < length ns → AreBelow (length ns) (parts_at ns i)
node-below ns h i l = below-wider i (length ns) (parts_at ns i) (omega arith) (node-before ns h i l)

module _ (ns : List ProofNode) (h : IsTable ns) (i : ℕ) (l : i < length ns) where
  -- a node's tree is made of those of its parts
  pub node-made : tree_in ns i ≡ node_make (get_or ns i no_node).head (get_or ns i no_node).numbers (parts_in ns i)
  node-made =
      tree-at (map node_of ns) (node_of no_node) i h (omega (arith, l, length-map ns node_of)) ∙ ap (tree_over (trees_in ns)) (node-at ns i)

  pub node-fits : IsTrue (node_fits (get_or ns i no_node).head (get_or ns i no_node).numbers (length (parts_in ns i)))
  node-fits =
      let f = node-form (map node_of ns) (node_of no_node) 0 i h (omega (arith, l, length-map ns node_of)) in
      let n : ProofNode = get_or ns i no_node in
      let g : IsTrue (node_fits n.head n.numbers (length n.parts)) = subst (λ (k : Node). IsTrue (node_fits k.head k.numbers (length k.parts))) (node-at ns i) f.0 in
      subst (λ k. IsTrue (node_fits n.head n.numbers k)) (sym (length-picked (trees_in ns) n.parts)) g

module _ (law : NodeShows) (ns : List ProofNode) (h : IsTable ns) (i : ℕ) (l : i < length ns) where
  node-shown : ShowsNode (get_or ns i no_node).head (get_or ns i no_node).numbers (parts_in ns i) (tree_in ns i)
  node-shown =
      let n : ProofNode = get_or ns i no_node in
      subst (ShowsNode n.head n.numbers (parts_in ns i)) (sym (node-made ns h i l)) (law n.head n.numbers (parts_in ns i) (node-fits ns h i l))

  -- a node's tree is entered as those of its parts and then the node
  pub enter-node : (table : List ProofNode) → (let a = enter_all (parts_in ns i) table in enter (tree_in ns i) table ≡ put (node_at ns i a.places) a.nodes)
  enter-node table =
      let s = node-shown in
      enter-listed (tree_in ns i) table ∙ ap (λ ts. root (tree_in ns i) (enter_all ts table)) s.parts_are
      ∙ (λ j. put (record { head = s.head_is j; numbers = s.numbers_are j; parts = (enter_all (parts_in ns i) table).places }) (enter_all (parts_in ns i) table).nodes)

  -- once its parts stand in the table, a node's tree is entered as the node
  enter-over : (table : List ProofNode) (ps : List ℕ) → enter_all (parts_in ns i) table ≡ here_all table ps → enter (tree_in ns i) table ≡ put (node_at ns i ps) table
  enter-over table ps e = enter-node table ∙ ap (λ (a : AllPlaced). put (node_at ns i a.places) a.nodes) e

  -- the parts may be entered before
  enter-behind : (table : List ProofNode) → enter (tree_in ns i) (enter_all (parts_in ns i) table).nodes ≡ enter (tree_in ns i) table
  enter-behind table =
      let a = enter_all (parts_in ns i) table in
      enter-over a.nodes a.places (again-all (parts_in ns i) table a.nodes (same a.nodes)) ∙ sym (enter-node table)

  -- the node waits for its parts
  pub waits : (is new : List ℕ) (a : Placed) → new ≡ (is ++ i ∷ []) ++ last_first (parts_at ns i) → enter_last_first ns new a ≡ enter_last_first ns is (enter (tree_in ns i) a.nodes)
  waits is new a e =
      let qs = last_first (parts_at ns i) in
      ap (λ ks. enter_last_first ns ks a) e ∙ enter-append ns (is ++ i ∷ []) qs a ∙ enter-append ns is (i ∷ []) (enter_last_first ns qs a)
      ∙ ap (enter_last_first ns is) (ap (enter (tree_in ns i)) (last_first-enters ns (parts_at ns i) a) ∙ enter-behind a.nodes)

  -- the node is put over the places of its parts
  pub puts : (table new : List ProofNode) (places : List (Option ℕ)) (ps : List ℕ) (place : ℕ) (n : ProofNode) → AreNoted ns table places → ArePlaces places (parts_at ns i) ps → n ≡ node_at ns i ps
      → new ≡ (put n table).nodes → place ≡ (put n table).place → here new place ≡ enter (tree_in ns i) table
  puts table new places ps place n k e f g h =
      (λ j. here (g j) (h j)) ∙ ap (λ n. put n table) f ∙ sym (enter-over table ps (all-noted (parts_at ns i) ps e))
    where
      all-noted : (is ps : List ℕ) → ArePlaces places is ps → enter_all (picked (trees_in ns) is) table ≡ here_all table ps
      all-noted [] [] e = refl
      all-noted [] (p ∷ ps) e = cc
      all-noted (i ∷ is) [] e = cc
      all-noted (i ∷ is) (p ∷ ps) e =
          let f : place_of places i ≡ Some p = cc in
          let g : ArePlaces places is ps = cc in
          let s = k.stand i p f in
          (λ j. record { nodes = (enter_all (picked (trees_in ns) is) (s j).nodes).nodes; places = (s j).place ∷ (enter_all (picked (trees_in ns) is) (s j).nodes).places }) ∙ ap (λ (a : AllPlaced). here_all a.nodes (p ∷ a.places)) (all-noted is ps g)

-- the place of a tree that was entered is noted
pub noted-more : (ns table : List ProofNode) (places : List (Option ℕ)) (i : ℕ) (new : Placed) → i < length ns → AreNoted ns table places → enter (tree_in ns i) table ≡ new → AreNoted ns new.nodes (slice_set places i (Some new.place))
noted-more ns table places i new l n e = record {
  nodes = n.nodes;
  count = length-set places i (Some new.place) ∙ n.count;
  stand = λ j p h. go j p h (nat_eq j i) refl;
}
  where
    go : (j p : ℕ) → place_of (set places i (Some new.place)) j ≡ Some p → (b : Bool) → nat_eq j i ≡ b → enter (tree_in ns j) new.nodes ≡ here new.nodes p
    go j p h true t =
        let q : j ≡ i = eqb-true j i t in
        let w : new.place ≡ p =
        (let f : place_of (set places i (Some new.place)) i ≡ Some new.place = get_or-set_same places i (Some new.place) None (omega (arith, l, n.count)) in
        let g : place_of (set places i (Some new.place)) i ≡ Some p = ap (place_of (set places i (Some new.place))) (sym q) ∙ h in
        cc) in
        ap (λ k. enter (tree_in ns k) new.nodes) q ∙ ap (λ (x : Placed). enter (tree_in ns i) x.nodes) (sym e) ∙ again (tree_in ns i) table (enter (tree_in ns i) table).nodes (same (enter (tree_in ns i) table).nodes)
        ∙ (λ k. here (e k).nodes (e k).place) ∙ ap (here new.nodes) w
    go j p h false t =
        let q : j ≡ i → ⊥ = (λ z. (let b : nat_eq j i ≡ true = eq-eqb j i z in cc)) in
        let s = n.stand j p (sym (get_or-set_other places i j (Some new.place) None q) ∙ h) in
        let x : Extends table new.nodes = subst (λ (y : Placed). Extends table y.nodes) e (extends (tree_in ns i) table) in
        again (tree_in ns j) table new.nodes (subst (λ (y : Placed). Extends y.nodes new.nodes) (sym s) x) ∙ ap (λ (y : Placed). here new.nodes y.place) s

pub below-split : (n : ℕ) (is js : List ℕ) → AreBelow n (is ++ js) → AreBelow n is × AreBelow n js
below-split n [] js b = (tt, b)
below-split n (i ∷ is) js b = let s = below-split n is js b.1 in ((b.0, s.0), s.1)

pub below-last_first : (n : ℕ) (is : List ℕ) → AreBelow n is → AreBelow n (last_first is)
below-last_first n [] b = tt
below-last_first n (i ∷ is) b = below-append n (last_first is) (i ∷ []) (below-last_first n is b.1) (b.0, tt)
