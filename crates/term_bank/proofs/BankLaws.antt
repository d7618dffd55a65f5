-- What the bank's trees are.
use Rattle.std.proofs.Common.{◌≡◌, ℕ, ◌<◌, ◌≤◌, List, [], ◌∷◌, ◌++◌, length, get_or, Result, Ok, Err, ap, sym, ◌∙◌, arith, subst, append-nil}
use Rattle.std.specs.Prelude.{IfOk, OnErr}
use Rattle.std.proofs.lemmas.List.{get_or_push, length_push, length-map}
use Rattle.core_expr.specs.Tree.{Tree, true_}
use Rattle.core_expr.specs.Loose.{loose}
use Rattle.core_expr.specs.Nodes.{Node, tree_over, trees_of, IsNode, AreBelow}
use Rattle.term_bank.specs.Banks.{no_node, Extends, HasNode, HasTree}
use Rattle.term_bank.specs.Slots.{node_of, reach_count, nodes_of, trees, IsHeld}
use Rattle.term_bank.specs.declared.node.Slot.{Slot}
use Rattle.term_bank.proofs.SlotLaws.{map_at}
use Rattle.term_bank.proofs.TableLaws.{trees_of-push, length-trees_of, same_nodes, IsNode-more}

pub length-trees : (slots : List Slot) → length (trees slots) ≡ length slots
length-trees slots = length-trees_of (nodes_of slots) ∙ length-map slots (λ (s : Slot). node_of s.node)

pub held_node : (slots : List Slot) (buckets : List ℕ) (i : ℕ) (d : Slot) → IsHeld slots buckets → i < length slots → HasNode (trees slots) i (node_of (get_or slots i d).node)
held_node slots buckets i d a h =
    let l : i < length (nodes_of slots) = omega (arith, length-map slots (λ (s : Slot). node_of s.node)) in
    let e : get_or (nodes_of slots) i no_node ≡ node_of (get_or slots i d).node = map_at (λ (s : Slot). node_of s.node) slots i d no_node h in
    record {
      within = omega (arith, length-trees slots);
      node = IsNode-more (node_of (get_or slots i d).node) i (length (trees slots)) (omega (arith, length-trees slots)) (subst (λ n. IsNode n i) e (a.bank.form i l));
      tree = a.bank.tree i l ∙ ap (tree_over (trees slots)) e;
    }

pub held_below : (slots : List Slot) (buckets : List ℕ) (i : ℕ) (d : Slot) → IsHeld slots buckets → i < length slots → AreBelow i (get_or slots i d).node.parts.items
held_below slots buckets i d a h =
    let l : i < length (nodes_of slots) = omega (arith, length-map slots (λ (s : Slot). node_of s.node)) in
    let e : get_or (nodes_of slots) i no_node ≡ node_of (get_or slots i d).node = map_at (λ (s : Slot). node_of s.node) slots i d no_node h in
    subst (λ (n : Node). AreBelow i n.parts) e (a.bank.form i l).1

pub node_held : (slots : List Slot) (buckets : List ℕ) (i : ℕ) (n : Node) → IsHeld slots buckets → HasNode (trees slots) i n → get_or (nodes_of slots) i no_node ≡ n
node_held slots buckets i n a h =
    let l : i < length (nodes_of slots) = omega (arith, h.within, a.bank.count) in
    let ll : i ≤ length (trees slots) = omega (arith, h.within) in
    same_nodes (trees slots) (get_or (nodes_of slots) i no_node) n a.bank.distinct
    (IsNode-more (get_or (nodes_of slots) i no_node) i (length (trees slots)) ll (a.bank.form i l))
    h.node
    (sym (a.bank.tree i l) ∙ h.tree)

-- after a push, or after none
pub pushed_extends : {E : Type 0} (r : Result ℕ E) (old new : List Slot) (n : Node) (ts : List Tree) → trees old ≡ ts → IfOk r (λ i. (i ≡ length old) × (nodes_of new ≡ nodes_of old ++ n ∷ [])) → OnErr r (nodes_of new ≡ nodes_of old) → Extends ts (trees new)
pushed_extends (Ok i) old new n ts e h k = (tree_over ts n ∷ [], ap trees_of h.1 ∙ trees_of-push (nodes_of old) n ∙ ap (λ us. us ++ tree_over us n ∷ []) e)
pushed_extends (Err z) old new n ts e h k = ([], ap trees_of k ∙ e ∙ sym (append-nil ts))

pub pushed_ok : {E : Type 0} (r : Result ℕ E) (old new : List Slot) (n : Node) (ts : List Tree) → trees old ≡ ts → IfOk r (λ i. (i ≡ length old) × (nodes_of new ≡ nodes_of old ++ n ∷ [])) → IfOk r (λ i. HasTree (trees new) i (tree_over ts n))
pushed_ok (Err z) old new n ts e h = tt
pushed_ok (Ok i) old new n ts e h =
    let m : trees new ≡ ts ++ tree_over ts n ∷ [] = ap trees_of h.1 ∙ trees_of-push (nodes_of old) n ∙ ap (λ us. us ++ tree_over us n ∷ []) e in
    let l : length ts ≡ i = ap length (sym e) ∙ length-trees old ∙ sym h.0 in
    rw m (record { within = omega (arith, length_push ts (tree_over ts n)); tree = get_or_push ts (tree_over ts n) true_ i l })

pub held_reach : (slots : List Slot) (buckets : List ℕ) (ts : List Tree) (i : ℕ) (r : Slot) → trees slots ≡ ts → IsHeld slots buckets → i < length ts → r ≡ get_or slots i r → reach_count r.reach ≡ loose (get_or ts i true_)
held_reach slots buckets ts i r e a h k =
    let l : i < length slots = omega (arith, length-trees slots, ap length e) in
    ap (λ (s : Slot). reach_count s.reach) k ∙ sym (map_at (λ (s : Slot). reach_count s.reach) slots i r 0 l) ∙ a.reached i l ∙ ap (λ us. loose (get_or us i true_)) e

pub has_node : (slots : List Slot) (buckets : List ℕ) (i : ℕ) (n : Node) → IsHeld slots buckets → i < length slots → get_or (nodes_of slots) i no_node ≡ n → HasNode (trees slots) i n
has_node slots buckets i n a h e =
    let l : i < length (nodes_of slots) = omega (arith, length-map slots (λ (s : Slot). node_of s.node)) in
    record {
      within = omega (arith, length-trees slots);
      node = IsNode-more n i (length (trees slots)) (omega (arith, length-trees slots)) (subst (λ n. IsNode n i) e (a.bank.form i l));
      tree = a.bank.tree i l ∙ ap (tree_over (trees slots)) e;
    }
