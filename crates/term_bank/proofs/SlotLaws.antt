-- Laws of what the bank holds.
use Rattle.std.proofs.Common.{◌≡◌, ℕ, zero, suc, ◌+◌, ◌<◌, ◌%◌, List, [], ◌∷◌, ◌++◌, length, get_or, map, set, refl, ap, sym, ◌∙◌, arith, subst, inl, inr}
use Rattle.std.proofs.lemmas.List.{get_or_append_left, get_or_push, length_push, length-map, length-set, map-set, map-append, set-get_or, get_or-set_same, get_or-set_other}
use Rattle.std.proofs.Math.Nat.{mod-lt}
use Rattle.std.proofs.lemmas.Bool.{cases_lt}
use Rattle.core_expr.specs.Tree.{true_}
use Rattle.core_expr.specs.Loose.{loose}
use Rattle.core_expr.specs.Nodes.{Node, tree_over, trees_of, IsNode}
use Rattle.term_bank.specs.Banks.{no_node}
use Rattle.term_bank.specs.Chains.{hash_of, IsLinked}
use Rattle.term_bank.specs.Slots.{node_of, reach_count, nodes_of, hashes_of, nexts_of, reaches_of, trees, IsHeld}
use Rattle.term_bank.specs.declared.node.Slot.{Slot}
use Rattle.term_bank.proofs.ChainLaws.{IsLinked-more}
use Rattle.term_bank.proofs.TableLaws.{IsBank-push, trees_of-push, length-trees_of}

pub map_at : {X Y : Type 0} (f : X → Y) (xs : List X) (i : ℕ) (d : X) (e : Y) → i < length xs → get_or (map f xs) i e ≡ f (get_or xs i d)
map_at f [] i d e h = absurd (omega arith)
map_at f (x ∷ xs) zero d e h = refl
map_at f (x ∷ xs) (suc i) d e h = map_at f xs i d e (omega arith)

-- a write that one function does not see
pub map_unseen : {X Y : Type 0} (f : X → Y) (xs : List X) (i : ℕ) (d q : X) → i < length xs → f q ≡ f (get_or xs i d) → map f (set xs i q) ≡ map f xs
map_unseen f xs i d q h e = map-set f xs i q ∙ ap (set (map f xs) i) (e ∙ sym (map_at f xs i d (f q) h)) ∙ set-get_or (map f xs) i (f q)

pub relinked : (slots : List Slot) (buckets : List ℕ) (size i : ℕ) (d q : Slot) → size ≡ length buckets → i < length slots → 0 < length buckets → q ≡ record { node = (get_or slots i d).node; hash = (get_or slots i d).hash; next = get_or buckets ((get_or slots i d).hash % size) 0; reach = (get_or slots i d).reach } → IsLinked (hashes_of slots) (nexts_of slots) buckets i → IsLinked (hashes_of (set slots i q)) (nexts_of (set slots i q)) (set buckets ((get_or slots i d).hash % size) (i + 1)) (i + 1)
relinked slots buckets size i d q z h p e a =
    let b : ℕ = (get_or slots i d).hash % size in
    let eh : hashes_of (set slots i q) ≡ hashes_of slots = map_unseen (λ (s : Slot). s.hash) slots i d q h (ap (λ (s : Slot). s.hash) e) in
    let en : nexts_of (set slots i q) ≡ set (nexts_of slots) i q.next = map-set (λ (s : Slot). s.next) slots i q in
    IsLinked-more (hashes_of slots) (nexts_of slots) (hashes_of (set slots i q)) (nexts_of (set slots i q)) buckets i b
    (λ k l. ap (λ hs. get_or hs k 0) eh)
    (λ k l. let ne : k ≡ i → ⊥ = λ z. omega arith in ap (λ hs. get_or hs k 0) en ∙ get_or-set_other (nexts_of slots) i k q.next 0 ne)
    (let l : i < length (nexts_of slots) = omega (arith, length-map slots (λ (s : Slot). s.next)) in ap (λ hs. get_or hs i 0) en ∙ get_or-set_same (nexts_of slots) i q.next 0 l ∙ ap (λ (s : Slot). s.next) e)
    (ap (λ hs. get_or hs i 0 % length buckets) eh ∙ ap (λ x. x % length buckets) (map_at (λ (s : Slot). s.hash) slots i d 0 h) ∙ ap (λ n. (get_or slots i d).hash % n) (sym z))
    (subst (λ n. (get_or slots i d).hash % n < length buckets) (sym z) (mod-lt (get_or slots i d).hash p))
    a

-- a slot at the end
pub IsHeld-push : (slots : List Slot) (buckets : List ℕ) (q : Slot) → IsHeld slots buckets → IsNode (node_of q.node) (length slots) → q.hash ≡ hash_of (node_of q.node) → q.next ≡ get_or buckets (q.hash % length buckets) 0 → reach_count q.reach ≡ loose (tree_over (trees slots) (node_of q.node)) → ((i : ℕ) → i < length slots → get_or (nodes_of slots) i no_node ≡ node_of q.node → ⊥) → IsHeld (slots ++ q ∷ []) (set buckets (q.hash % length buckets) (length slots + 1))
IsHeld-push slots buckets q a n eh en er none =
    record {
      bank = rw (map-append (λ (s : Slot). node_of s.node) slots (q ∷ []), trees_of-push (nodes_of slots) (node_of q.node)) (IsBank-push (nodes_of slots) (trees slots) (node_of q.node) a.bank (subst (λ k. IsNode (node_of q.node) k) (sym count) n) (λ i l. none i (omega (arith, count))));
      hashed = λ i h. elim (cases_lt i (length slots)) [
        | inl l ↦ rw (old_hash i l, old_node i l) (a.hashed i l)
        | inr g ↦ let e : length slots ≡ i = omega (arith, length_push slots q) in rw (new_hash i e, new_node i e) eh
      ];
      linked = rw (length_push slots q) linked;
      some = omega (arith, a.some, length-set buckets (q.hash % length buckets) (length slots + 1));
      reached = λ i h. elim (cases_lt i (length slots)) [
        | inl l ↦ rw (old_reach i l, old_tree i l) (a.reached i l)
        | inr g ↦ let e : length slots ≡ i = omega (arith, length_push slots q) in rw (new_reach i e, new_tree i e) er
      ];
    }
  where
    count : length (nodes_of slots) ≡ length slots
    count = length-map slots (λ (s : Slot). node_of s.node)

    count_trees : length (trees slots) ≡ length slots
    count_trees = length-trees_of (nodes_of slots) ∙ count

    old_hash : (i : ℕ) → i < length slots → get_or (hashes_of (slots ++ q ∷ [])) i 0 ≡ get_or (hashes_of slots) i 0
    old_hash i l = let p : i < length (hashes_of slots) = omega (arith, length-map slots (λ (s : Slot). s.hash)) in ap (λ xs. get_or xs i 0) (map-append (λ (s : Slot). s.hash) slots (q ∷ [])) ∙ get_or_append_left (hashes_of slots) (q.hash ∷ []) 0 i p

    new_hash : (i : ℕ) → length slots ≡ i → get_or (hashes_of (slots ++ q ∷ [])) i 0 ≡ q.hash
    new_hash i e = ap (λ xs. get_or xs i 0) (map-append (λ (s : Slot). s.hash) slots (q ∷ [])) ∙ get_or_push (hashes_of slots) q.hash 0 i (length-map slots (λ (s : Slot). s.hash) ∙ e)

    old_next : (i : ℕ) → i < length slots → get_or (nexts_of (slots ++ q ∷ [])) i 0 ≡ get_or (nexts_of slots) i 0
    old_next i l = let p : i < length (nexts_of slots) = omega (arith, length-map slots (λ (s : Slot). s.next)) in ap (λ xs. get_or xs i 0) (map-append (λ (s : Slot). s.next) slots (q ∷ [])) ∙ get_or_append_left (nexts_of slots) (q.next ∷ []) 0 i p

    new_next : (i : ℕ) → length slots ≡ i → get_or (nexts_of (slots ++ q ∷ [])) i 0 ≡ q.next
    new_next i e = ap (λ xs. get_or xs i 0) (map-append (λ (s : Slot). s.next) slots (q ∷ [])) ∙ get_or_push (nexts_of slots) q.next 0 i (length-map slots (λ (s : Slot). s.next) ∙ e)

    old_reach : (i : ℕ) → i < length slots → get_or (reaches_of (slots ++ q ∷ [])) i 0 ≡ get_or (reaches_of slots) i 0
    old_reach i l = let p : i < length (reaches_of slots) = omega (arith, length-map slots (λ (s : Slot). reach_count s.reach)) in ap (λ xs. get_or xs i 0) (map-append (λ (s : Slot). reach_count s.reach) slots (q ∷ [])) ∙ get_or_append_left (reaches_of slots) (reach_count q.reach ∷ []) 0 i p

    new_reach : (i : ℕ) → length slots ≡ i → get_or (reaches_of (slots ++ q ∷ [])) i 0 ≡ reach_count q.reach
    new_reach i e = ap (λ xs. get_or xs i 0) (map-append (λ (s : Slot). reach_count s.reach) slots (q ∷ [])) ∙ get_or_push (reaches_of slots) (reach_count q.reach) 0 i (length-map slots (λ (s : Slot). reach_count s.reach) ∙ e)

    old_node : (i : ℕ) → i < length slots → get_or (nodes_of (slots ++ q ∷ [])) i no_node ≡ get_or (nodes_of slots) i no_node
    old_node i l = let p : i < length (nodes_of slots) = omega (arith, count) in ap (λ xs. get_or xs i no_node) (map-append (λ (s : Slot). node_of s.node) slots (q ∷ [])) ∙ get_or_append_left (nodes_of slots) (node_of q.node ∷ []) no_node i p

    new_node : (i : ℕ) → length slots ≡ i → get_or (nodes_of (slots ++ q ∷ [])) i no_node ≡ node_of q.node
    new_node i e = ap (λ xs. get_or xs i no_node) (map-append (λ (s : Slot). node_of s.node) slots (q ∷ [])) ∙ get_or_push (nodes_of slots) (node_of q.node) no_node i (count ∙ e)

    more : trees (slots ++ q ∷ []) ≡ trees slots ++ tree_over (trees slots) (node_of q.node) ∷ []
    more = ap trees_of (map-append (λ (s : Slot). node_of s.node) slots (q ∷ [])) ∙ trees_of-push (nodes_of slots) (node_of q.node)

    old_tree : (i : ℕ) → i < length slots → get_or (trees (slots ++ q ∷ [])) i true_ ≡ get_or (trees slots) i true_
    old_tree i l = let p : i < length (trees slots) = omega (arith, count_trees) in ap (λ xs. get_or xs i true_) more ∙ get_or_append_left (trees slots) (tree_over (trees slots) (node_of q.node) ∷ []) true_ i p

    new_tree : (i : ℕ) → length slots ≡ i → get_or (trees (slots ++ q ∷ [])) i true_ ≡ tree_over (trees slots) (node_of q.node)
    new_tree i e = ap (λ xs. get_or xs i true_) more ∙ get_or_push (trees slots) (tree_over (trees slots) (node_of q.node)) true_ i (count_trees ∙ e)

    linked : IsLinked (hashes_of (slots ++ q ∷ [])) (nexts_of (slots ++ q ∷ [])) (set buckets (q.hash % length buckets) (length slots + 1)) (length slots + 1)
    linked =
        IsLinked-more (hashes_of slots) (nexts_of slots) (hashes_of (slots ++ q ∷ [])) (nexts_of (slots ++ q ∷ [])) buckets (length slots) (q.hash % length buckets)
        old_hash old_next (new_next (length slots) refl ∙ en) (ap (λ x. x % length buckets) (new_hash (length slots) refl)) (mod-lt q.hash a.some) a.linked

-- the same, for what the code has
pub IsHeld-pushed : (slots slots' : List Slot) (buckets : List ℕ) (size count : ℕ) (q : Slot) (n : Node) → slots' ≡ slots ++ q ∷ [] → size ≡ length buckets → count ≡ length slots → node_of q.node ≡ n → IsHeld slots buckets → IsNode n (length slots) → q.hash ≡ hash_of n → q.next ≡ get_or buckets (q.hash % size) 0 → reach_count q.reach ≡ loose (tree_over (trees slots) n) → ((i : ℕ) → i < length slots → get_or (nodes_of slots) i no_node ≡ n → ⊥) → IsHeld slots' (set buckets (q.hash % size) (count + 1))
IsHeld-pushed slots slots' buckets size count q n es ez ec en a f eh ex er none =
    rw (es, ez, ec)
    (IsHeld-push slots buckets q a (subst (λ m. IsNode m (length slots)) (sym en) f) (eh ∙ ap hash_of (sym en)) (ex ∙ ap (λ z. get_or buckets (q.hash % z) 0) ez) (er ∙ ap (λ m. loose (tree_over (trees slots) m)) (sym en)) (λ i l e. none i l (e ∙ en)))
