-- Nodes of a table whose expressions are being made.
use Rattle.std.proofs.Common.{◌≡◌, ℕ, zero, suc, ◌+◌, ◌<◌, ◌≤◌, List, [], ◌∷◌, ◌++◌, length, map, get_or, take, refl, ap, sym, ◌∙◌, subst, arith, length-append}
use Rattle.std.specs.Prelude.{IsTrue}
use Rattle.std.proofs.lemmas.List.{take_more, take_all}
use Rattle.core_expr.specs.Tree.{Tree, true_}
use Rattle.core_expr.specs.Nodes.{IsNode, AreBelow, AreNodes, picked, node_fits, node_make}
use Rattle.seq_calculus.specs.declared.lists.ProofNode.{ProofNode}
use Rattle.seq_calculus.specs.Lists.{node_of}
use Rattle.proof_text.specs.declared.frames.Frame.{Frame}
use Rattle.core_expr.specs.Laws.{NodeIsCanonical}
use Rattle.core_expr.specs.declared.canon.Canon.{Canon}
use Rattle.proof_text.specs.Texts.{Obligation, IsObligation, IsCanonicalForm, canon_of, trees_in, tree_in}
use Rattle.proof_text.specs.Frames.{no_node, parts_at, IsFrame, next_part, AreWaiting, goal_of}
use Rattle.proof_text.proofs.TableTrees.{tree-at, below-at, length-picked, picked-at, node-form, canonical-at, canonical-picked}

item : (ns : List ProofNode) (i : ℕ) (n d : ProofNode) → i < length ns → n ≡ get_or ns i n → n ≡ get_or ns i d
item [] i n d l e = absurd (omega arith)
item (m ∷ ns) zero n d l e = e
item (m ∷ ns) (suc i) n d l e = item ns i n d (omega arith) e

map-at : (ns : List ProofNode) (i : ℕ) (d : ProofNode) → get_or (map node_of ns) i (node_of d) ≡ node_of (get_or ns i d)
map-at [] i d = refl
map-at (n ∷ ns) zero d = refl
map-at (n ∷ ns) (suc i) d = map-at ns i d

pub map-length : (ns : List ProofNode) → length (map node_of ns) ≡ length ns
map-length [] = refl
map-length (n ∷ ns) = ap suc (map-length ns)

form-at : (ns : List ProofNode) (i : ℕ) → AreNodes 0 (map node_of ns) → i < length ns → IsNode (node_of (get_or ns i no_node)) i
form-at ns i a l =
    let e : 0 + i ≡ i = omega arith in
    subst (IsNode (node_of (get_or ns i no_node))) e (subst (λ n. IsNode n (0 + i)) (map-at ns i no_node) (node-form (map node_of ns) (node_of no_node) 0 i a (omega (arith, map-length ns))))

tree-in : (ns : List ProofNode) (i : ℕ) → AreNodes 0 (map node_of ns) → i < length ns → (let n = get_or ns i no_node in tree_in ns i ≡ node_make n.head n.numbers (picked (trees_in ns) n.parts))
tree-in ns i a l =
    tree-at (map node_of ns) (node_of no_node) i a (omega (arith, map-length ns)) ∙ (λ j. (let n = map-at ns i no_node j in node_make n.head n.numbers (picked (trees_in ns) n.parts)))

pub frame-start : (ns : List ProofNode) (i : ℕ) (f : Frame) → i < length ns → f.node ≡ i → f.parts.items ≡ [] → IsFrame ns i f
frame-start ns i f l e g = record {
  node = e;
  within = l;
  count = omega (arith, ap length g);
  parts = g ∙ (λ j. take (length (sym g j)) (picked (trees_in ns) (parts_at ns i)));
}

waiting-push : (ns : List ProofNode) (i : ℕ) (fs : List Frame) (f : Frame) → AreWaiting ns i fs → IsFrame ns (goal_of ns i fs) f → length f.parts.items < length (parts_at ns (goal_of ns i fs)) → AreWaiting ns i (fs ++ f ∷ []) × (goal_of ns i (fs ++ f ∷ []) ≡ next_part ns f)
waiting-push ns i [] f w h l = ((h, l, tt), refl)
waiting-push ns i (g ∷ fs) f w h l = let r = waiting-push ns (next_part ns g) fs f w.2 h l in ((w.0, w.1, r.0), r.1)

waiting-pop : (ns : List ProofNode) (i : ℕ) (fs : List Frame) (f : Frame) → AreWaiting ns i (fs ++ f ∷ []) → AreWaiting ns i fs × IsFrame ns (goal_of ns i fs) f × (length f.parts.items < length (parts_at ns (goal_of ns i fs))) × (goal_of ns i (fs ++ f ∷ []) ≡ next_part ns f)
waiting-pop ns i [] f w = (tt, w.0, w.1, refl)
waiting-pop ns i (g ∷ fs) f w = let r = waiting-pop ns (next_part ns g) fs f w.2 in ((w.0, w.1, r.0), r.1, r.2, r.3)

pub descend : (ns : List ProofNode) (root : ℕ) (fs gs : List Frame) (f g : Frame) (n : ProofNode) → AreNodes 0 (map node_of ns) → AreWaiting ns root fs → IsFrame ns (goal_of ns root fs) f → n ≡ get_or ns f.node n → length f.parts.items < length n.parts → gs ≡ fs ++ f ∷ [] → g.node ≡ get_or n.parts (length f.parts.items) 0 → g.parts.items ≡ [] → AreWaiting ns root gs × IsFrame ns (goal_of ns root gs) g
descend ns root fs gs f g n a w h e l q c z =
    let i = goal_of ns root fs in
    let m : n ≡ get_or ns i no_node = item ns f.node n no_node (omega (arith, h.node, h.within)) e ∙ ap (λ k. get_or ns k no_node) h.node in
    let lt : length f.parts.items < length (parts_at ns i) = subst (λ (n : ProofNode). length f.parts.items < length n.parts) m l in
    let p = waiting-push ns root fs f w h lt in
    let next : g.node ≡ next_part ns f = c ∙ ap (λ (n : ProofNode). get_or n.parts (length f.parts.items) 0) m ∙ ap (λ k. get_or (parts_at ns k) (length f.parts.items) 0) (sym h.node) in
    let goal : g.node ≡ goal_of ns root gs = next ∙ sym p.1 ∙ ap (goal_of ns root) (sym q) in
    let low : get_or (parts_at ns i) (length f.parts.items) 0 < i = below-at i (parts_at ns i) (length f.parts.items) (form-at ns i a h.within).1 lt in
    let same : g.node ≡ get_or (parts_at ns i) (length f.parts.items) 0 = c ∙ ap (λ (n : ProofNode). get_or n.parts (length f.parts.items) 0) m in
    (subst (AreWaiting ns root) (sym q) p.0, frame-start ns (goal_of ns root gs) g (omega (arith, goal, same, low, h.within)) goal z)

pub ascended : (ns : List ProofNode) (root : ℕ) (fs gs : List Frame) (f g : Frame) (t : Tree) → AreWaiting ns root fs → t ≡ tree_in ns (goal_of ns root fs) → fs ≡ gs ++ f ∷ [] → g.node ≡ f.node → g.parts.items ≡ f.parts.items ++ t ∷ [] → AreWaiting ns root gs × IsFrame ns (goal_of ns root gs) g
ascended ns root fs gs f g t w e q c z =
    let r = waiting-pop ns root gs f (subst (AreWaiting ns root) q w) in
    let i = goal_of ns root gs in
    let h = r.1 in
    let k = length f.parts.items in
    let ps = picked (trees_in ns) (parts_at ns i) in
    let long : length ps ≡ length (parts_at ns i) = length-picked (trees_in ns) (parts_at ns i) in
    let next : t ≡ get_or ps k true_ =
    e ∙ ap (λ fs. tree_in ns (goal_of ns root fs)) q ∙ ap (tree_in ns) r.3 ∙ ap (λ j. tree_in ns (get_or (parts_at ns j) k 0)) h.node
    ∙ sym (picked-at (trees_in ns) (parts_at ns i) k r.2) in
    let size : length g.parts.items ≡ k + 1 = omega (arith, ap length z, length-append f.parts.items (t ∷ [])) in
    let grown : f.parts.items ++ t ∷ [] ≡ take (k + 1) ps =
    (λ j. h.parts j ++ next j ∷ []) ∙ sym (take_more ps k true_ (omega (arith, long, r.2))) in (
      r.0,
      record {
        node = c ∙ h.node;
        within = h.within;
        count = omega (arith, size, r.2);
        parts = z ∙ grown ∙ ap (λ n. take n ps) (sym size);
      },
    )

pub made_form : (ns : List ProofNode) (i : ℕ) (f : Frame) (n : ProofNode) → AreNodes 0 (map node_of ns) → IsFrame ns i f → n ≡ get_or ns f.node n → length n.parts ≤ length f.parts.items → IsTrue (node_fits n.head n.numbers (length f.parts.items)) × (node_make n.head n.numbers f.parts.items ≡ tree_in ns i)
made_form ns i f n a h e l =
    let m : n ≡ get_or ns i no_node = item ns f.node n no_node (omega (arith, h.node, h.within)) e ∙ ap (λ k. get_or ns k no_node) h.node in
    let ps = picked (trees_in ns) (parts_at ns i) in
    let long : length ps ≡ length (parts_at ns i) = length-picked (trees_in ns) (parts_at ns i) in
    let same : length n.parts ≡ length (parts_at ns i) = ap (λ (n : ProofNode). length n.parts) m in
    let all : f.parts.items ≡ ps = h.parts ∙ take_all (length f.parts.items) ps (omega (arith, long, same, l)) in
    let count : length (parts_at ns i) ≡ length f.parts.items = omega (arith, ap length all, long) in
    let form : IsTrue (node_fits (get_or ns i no_node).head (get_or ns i no_node).numbers (length f.parts.items)) = subst (λ k. IsTrue (node_fits (get_or ns i no_node).head (get_or ns i no_node).numbers k)) count (form-at ns i a h.within).0 in
    (subst (λ (n : ProofNode). IsTrue (node_fits n.head n.numbers (length f.parts.items))) (sym m) form, (λ j. node_make (m j).head (m j).numbers (all j)) ∙ sym (tree-in ns i a h.within))

-- an obligation's canonical form has symbols of a canonical form alone
pub canonical-form : NodeIsCanonical → (o : Obligation) → IsObligation o → IsCanonicalForm (canon_of o)
canonical-form law o h =
    let e = sym (map-length o.nodes) in (
      canonical-picked law (map node_of o.nodes) o.facts h.nodes (subst (λ k. AreBelow k o.facts) e h.facts),
      canonical-at law (map node_of o.nodes) o.goal h.nodes (subst (λ k. o.goal < k) e h.goal),
    )

pub canonical-canon : NodeIsCanonical → (o : Obligation) (c : Canon) → IsObligation o → c ≡ canon_of o → IsCanonicalForm c
canonical-canon law o c h e = subst IsCanonicalForm (sym e) (canonical-form law o h)
