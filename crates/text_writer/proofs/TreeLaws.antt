-- The tree at the place of a tree that was entered is that tree.
use Rattle.std.proofs.Common.{◌≡◌, ℕ, zero, suc, nat_eq, ◌&&◌, ◌+◌, ◌<◌, ◌≤◌, Bool, true, false, List, [], ◌∷◌, ◌++◌, length, map, get_or, refl, ap, sym, ◌∙◌, subst, arith, append_assoc, append-nil, length-append}
use Rattle.std.specs.Prelude.{IsTrue}
use Rattle.std.specs.List.{list_any}
use Rattle.std.proofs.lemmas.List.{map-append, length-map, get_or_append_left, get_or_at}
use Rattle.std.proofs.lemmas.Bool.{and_parts}
use Rattle.core_expr.specs.Tree.{Tree, Parts, size, true_}
use Rattle.core_expr.specs.Tree.Tree.{bound, app, node, bind}
use Rattle.core_expr.specs.Tree.Parts.{end, part}
use Rattle.core_expr.specs.Heads.{subtrees, list_of, table_numbers, plain_fits, binder_arity, is_canon, is_lasting, is_well_formed, are_well_formed, is_canonical, are_canonical, IsWellFormed, IsCanonical}
use Rattle.core_expr.specs.Places.{kind_of, root_numbers}
use Rattle.core_expr.specs.Nodes.{Node, IsNode, AreBelow, AreNodes, picked, node_fits, node_make, tree_over, trees_from, trees_of}
use Rattle.core_expr.specs.Laws.{CanonicalIsNode}
use Rattle.seq_calculus.specs.declared.lists.ProofNode.{ProofNode}
use Rattle.seq_calculus.specs.Lists.{node_of}
use Rattle.proof_text.specs.Frames.{no_node}
use Rattle.proof_text.specs.Texts.{trees_in, tree_in, AreCanonical}
use Rattle.proof_text.proofs.TableTrees.{trees-count, tree-at, length-picked}
use Rattle.text_writer.specs.Keys.{same_node}
use Rattle.text_writer.specs.Laws.{AreWellFormed, CanonIsShown}
use Rattle.text_writer.specs.Tables.{Placed, AllPlaced, node_over, root, put, with_last, enter, enter_parts, enter_all, table_of, obligation_of, canon_list}
use Rattle.text_writer.proofs.PutLaws.{Extends, seek-some, put-there, put-new}
use Rattle.text_writer.proofs.EnterLaws.{here_all, extends, extends-parts, extends-all}

trees-split : (ts : List Tree) (ns ms : List Node) → trees_from ts (ns ++ ms) ≡ trees_from (trees_from ts ns) ms
trees-split ts [] ms = refl
trees-split ts (n ∷ ns) ms = trees-split (ts ++ tree_over ts n ∷ []) ns ms

trees-grow : (ts : List Tree) (ns : List Node) → (us : List Tree) × (trees_from ts ns ≡ ts ++ us)
trees-grow ts [] = ([], sym (append-nil ts))
trees-grow ts (n ∷ ns) =
    let g = trees-grow (ts ++ tree_over ts n ∷ []) ns in
    (tree_over ts n ∷ g.0, g.1 ∙ append_assoc ts (tree_over ts n ∷ []) g.0)

pub count-in : (ns : List ProofNode) → length (trees_in ns) ≡ length ns
count-in ns = trees-count (map node_of ns) ∙ length-map ns node_of

-- the trees of a table that grew begin with those that there were
trees-extend : (ns new : List ProofNode) → Extends ns new → (us : List Tree) × (trees_in new ≡ trees_in ns ++ us)
trees-extend ns new x =
    let g = trees-grow (trees_in ns) (map node_of x.more) in
    (g.0, ap trees_in x.new_is ∙ ap trees_of (map-append node_of ns x.more) ∙ trees-split [] (map node_of ns) (map node_of x.more) ∙ g.1)

pub extends-length : (ns new : List ProofNode) → Extends ns new → length ns ≤ length new
extends-length ns new x = let e = ap length x.new_is in omega (arith, length-append ns x.more, e)

pub below-wider : (n m : ℕ) (is : List ℕ) → n ≤ m → AreBelow n is → AreBelow m is
below-wider n m [] l b = tt
below-wider n m (i ∷ is) l b = (omega (arith, b.0), below-wider n m is l b.1)

-- the trees of earlier places stay
pub tree-stays : (ns new : List ProofNode) (i : ℕ) → Extends ns new → i < length ns → tree_in new i ≡ tree_in ns i
tree-stays ns new i x l =
    let g = trees-extend ns new x in
    ap (λ ts. get_or ts i true_) g.1 ∙ get_or_append_left (trees_in ns) g.0 true_ i (omega (arith, l, count-in ns))

pub picked-stays : (ns new : List ProofNode) (is : List ℕ) → Extends ns new → AreBelow (length ns) is → picked (trees_in new) is ≡ picked (trees_in ns) is
picked-stays ns new [] x b = refl
picked-stays ns new (i ∷ is) x b = λ j. tree-stays ns new i x b.0 j ∷ picked-stays ns new is x b.1 j

pub below-append : (n : ℕ) (is js : List ℕ) → AreBelow n is → AreBelow n js → AreBelow n (is ++ js)
below-append n [] js b c = c
below-append n (i ∷ is) js b c = (b.0, below-append n is js b.1 c)

picked-append : (ts : List Tree) (is js : List ℕ) → picked ts (is ++ js) ≡ picked ts is ++ picked ts js
picked-append ts [] js = refl
picked-append ts (i ∷ is) js = ap (λ us. get_or ts i true_ ∷ us) (picked-append ts is js)

nodes-more : (i k : ℕ) (ns : List Node) (n : Node) → k ≡ i + length ns → AreNodes i ns → IsNode n k → AreNodes i (ns ++ n ∷ [])
nodes-more i k [] n e h w = let z : k ≡ i = omega arith in (subst (IsNode n) z w, tt)
nodes-more i k (m ∷ ns) n e h w = (h.0, nodes-more (suc i) k ns n (omega arith) h.1 w)

abbrev pub IsTable : List ProofNode → Type 0
IsTable ns = AreNodes 0 (map node_of ns)

-- this tree stands at this place of a table
pub record Stands (t : Tree) (p : Placed) : Type 0 where
  pub table : IsTable p.nodes
  pub within : p.place < length p.nodes
  pub tree : tree_in p.nodes p.place ≡ t

-- these trees stand at these places of a table
pub record AllStand (ts : List Tree) (a : AllPlaced) : Type 0 where
  pub table : IsTable a.nodes
  pub within : AreBelow (length a.nodes) a.places
  pub trees : picked (trees_in a.nodes) a.places ≡ ts

-- what may be entered
abbrev pub IsRight : Tree → Type 0
IsRight t = IsWellFormed t × IsCanonical t

abbrev pub AreRight : List Tree → Type 0
AreRight [] = Unit {0}
AreRight (t ∷ ts) = IsRight t × AreRight ts

pub node-at : (ns : List ProofNode) (p : ℕ) → get_or (map node_of ns) p (node_of no_node) ≡ node_of (get_or ns p no_node)
node-at [] p = refl
node-at (m ∷ ns) zero = refl
node-at (m ∷ ns) (suc p) = node-at ns p

put-stands : (n : ProofNode) (ns : List ProofNode) (t : Tree) → IsTable ns → IsNode (node_of n) (length ns) → tree_over (trees_in ns) (node_of n) ≡ t → Stands t (put n ns)
put-stands n ns t h w e = go (list_any (same_node n) ns) refl
  where
    go : (b : Bool) → list_any (same_node n) ns ≡ b → Stands t (put n ns)
    go true f =
        let s = seek-some n ns no_node f in
        let p : ℕ = (put n ns).place in
        let at : get_or (map node_of ns) p (node_of no_node) ≡ node_of n = node-at ns p ∙ ap node_of s.1 in
        subst (Stands t) (sym (put-there n ns f)) (record {
          table = h;
          within = s.0;
          tree = tree-at (map node_of ns) (node_of no_node) p h (omega (arith, s.0, length-map ns node_of)) ∙ ap (tree_over (trees_in ns)) at ∙ e;
        })
    go false f =
        let k : length ns ≡ 0 + length (map node_of ns) = omega (arith, length-map ns node_of) in
        let x : Extends ns (ns ++ n ∷ []) = record { more = n ∷ []; new_is = refl } in
        let ts : trees_in (ns ++ n ∷ []) ≡ trees_in ns ++ tree_over (trees_in ns) (node_of n) ∷ [] = ap trees_of (map-append node_of ns (n ∷ [])) ∙ trees-split [] (map node_of ns) (node_of n ∷ []) in
        subst (Stands t) (sym (put-new n ns f)) (record {
          table = subst (AreNodes 0) (sym (map-append node_of ns (n ∷ []))) (nodes-more 0 (length ns) (map node_of ns) (node_of n) k h w);
          within = omega (arith, length-append ns (n ∷ []));
          tree = ap (λ us. get_or us (length ns) true_) ts ∙ get_or_at (trees_in ns) (tree_over (trees_in ns) (node_of n)) [] true_ (length ns) (count-in ns) ∙ e;
        })

one-stands : (t : Tree) (p : Placed) → Stands t p → AllStand (t ∷ []) (here_all p.nodes (p.place ∷ []))
one-stands t p h = record { table = h.table; within = (h.within, tt); trees = λ i. h.tree i ∷ [] }

both-stand : (ts us : List Tree) (a b : AllPlaced) → AllStand ts a → AllStand us b → Extends a.nodes b.nodes → AllStand (ts ++ us) (here_all b.nodes (a.places ++ b.places))
both-stand ts us a b g h x = record {
  table = h.table;
  within = below-append (length b.nodes) a.places b.places (below-wider (length a.nodes) (length b.nodes) a.places (extends-length a.nodes b.nodes x) g.within) h.within;
  trees = picked-append (trees_in b.nodes) a.places b.places ∙ (λ i. (picked-stays a.nodes b.nodes a.places x g.within ∙ g.trees) i ++ h.trees i);
}

module _ (law : CanonicalIsNode) where
  root-stands : (t : Tree) (a : AllPlaced) → IsRight t → AllStand (subtrees t) a → Stands t (root t a)
  root-stands t a w h =
      let l = law t w.0 w.1 in
      let n : ProofNode = node_over (kind_of t) (root_numbers t) a.places in
      let k : length (subtrees t) ≡ length a.places = ap length (sym h.trees) ∙ length-picked (trees_in a.nodes) a.places in
      put-stands n a.nodes t h.table (subst (λ k. IsTrue (node_fits n.head n.numbers k)) k l.1, h.within) (ap (node_make n.head n.numbers) h.trees ∙ l.0)

  mutual
    pub stands : (t : Tree) (ns : List ProofNode) → IsRight t → IsTable ns → Stands t (enter t ns)
    stands (bound i) ns w h = root-stands (bound i) (here_all ns []) w (record { table = h; within = tt; trees = refl })
    stands (app f ps) ns w h =
        root-stands (app f ps) (enter_parts ps ns) w (parts-stand ps ns ((and_parts (nat_eq (size ps) f.arity) (are_well_formed ps) w.0).1, (and_parts (is_canon f.kind) (are_canonical ps) w.1).1) h)
    stands (node k ms ps) ns w h =
        root-stands (node k ms ps) (enter_parts ps ns) w (parts-stand ps ns ((and_parts (plain_fits k (table_numbers k ms (size ps)) (size ps)) (are_well_formed ps) w.0).1, (and_parts (is_lasting k) (are_canonical ps) w.1).1) h)
    stands (bind b ps e) ns w h =
        let u = and_parts (are_well_formed ps) (is_well_formed e) (and_parts (nat_eq (size ps + 1) (binder_arity b)) (are_well_formed ps && is_well_formed e) w.0).1 in
        let v = and_parts (are_canonical ps) (is_canonical e) w.1 in
        let a = enter_parts ps ns in
        let g = parts-stand ps ns (u.0, v.0) h in
        root-stands (bind b ps e) (with_last a (enter e)) w (both-stand (list_of ps) (e ∷ []) a _ g (one-stands e (enter e a.nodes) (stands e a.nodes (u.1, v.1) g.table)) (extends e a.nodes))

    parts-stand : (ps : Parts) (ns : List ProofNode) → IsTrue (are_well_formed ps) × IsTrue (are_canonical ps) → IsTable ns → AllStand (list_of ps) (enter_parts ps ns)
    parts-stand end ns w h = record { table = h; within = tt; trees = refl }
    parts-stand (part e ps) ns w h =
        let u = and_parts (is_well_formed e) (are_well_formed ps) w.0 in
        let v = and_parts (is_canonical e) (are_canonical ps) w.1 in
        let s = stands e ns (u.0, v.0) h in
        both-stand (e ∷ []) (list_of ps) _ (enter_parts ps (enter e ns).nodes) (one-stands e (enter e ns) s) (parts-stand ps (enter e ns).nodes (u.1, v.1) s.table) (extends-parts ps (enter e ns).nodes)

  pub all-stand : (ts : List Tree) (ns : List ProofNode) → AreRight ts → IsTable ns → AllStand ts (enter_all ts ns)
  all-stand [] ns w h = record { table = h; within = tt; trees = refl }
  all-stand (t ∷ ts) ns w h =
      let s = stands t ns w.0 h in
      both-stand (t ∷ []) ts _ (enter_all ts (enter t ns).nodes) (one-stands t (enter t ns) s) (all-stand ts (enter t ns).nodes w.1 s.table) (extends-all ts (enter t ns).nodes)

both-right : (ts : List Tree) → AreWellFormed ts → AreCanonical ts → AreRight ts
both-right [] w c = tt
both-right (t ∷ ts) w c = ((w.0, c.0), both-right ts w.1 c.1)

-- what is written of a canonical form is how an obligation is written that stands for it
pub canon-shown : CanonicalIsNode → CanonIsShown
unfolding canon_list obligation_of
canon-shown law c w v k =
    let a = table_of c.facts in
    let p = enter c.goal a.nodes in
    let f = all-stand law c.facts [] (both-right c.facts w k.0) tt in
    let g = stands law c.goal a.nodes (v, k.1) f.table in
    let x = extends c.goal a.nodes in (
      obligation_of c,
      record { nodes = g.table; facts = below-wider (length a.nodes) (length p.nodes) a.places (extends-length a.nodes p.nodes x) f.within; goal = g.within },
      refl,
      λ i. record { facts = sym (picked-stays a.nodes p.nodes a.places x f.within ∙ f.trees) i; goal = sym g.tree i },
    )
