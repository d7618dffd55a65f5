-- The walk along the closed subterms.
use Rattle.std.proofs.Common.{◌≡◌, ℕ, suc, ◌+◌, ◌<◌, Bool, true, false, not, List, [], ◌∷◌, ◌++◌, length, refl, ap, sym, ◌∙◌, arith, subst, inl, inr, append-nil, append_assoc, Result, Ok, Err, OnOk}
use Rattle.std.specs.Prelude.{◌⊎◌, ◌||◌}
use Rattle.std.specs.Bool.{OnFalse}
use Rattle.std.specs.List.{list_any}
use Rattle.std.specs.Ordering.{nat_cmp}
use Rattle.std.specs.BTreeMap.{is_at}
use Rattle.std.specs.BTreeSet.{insert_key}
use Rattle.std.proofs.lemmas.Bool.Decides.{nat_tests}
use Rattle.core_expr.specs.Tree.{Tree}
use Rattle.core_expr.specs.Tree.Tree.{bound, app, node, bind}
use Rattle.core_expr.specs.Put.{IsScoped}
use Rattle.core_expr.specs.Terms.{same, is_scoped, nodes}
use Rattle.core_expr.proofs.Equal.{scoped-true, true-scoped}
use Rattle.core_expr.specs.Nodes.{Node, AreBelow, node_kind, picked}
use Rattle.search_definition.specs.Terms.{if_so, either, in_list, where_closed, closed_subterms}
use Rattle.term_bank.specs.Banks.{IsDistinct, HasNode, tree_at}
use Rattle.term_bank.specs.Images.{In}
use Rattle.term_bank.proofs.TableLaws.{fits-picked, AreBelow-more}
use Rattle.term_bank.proofs.InternLaws.{picked-append, AreBelow-append}
use Rattle.term_bank.proofs.MarkLaws.{In-parts, In-append-left, In-append-right, inserted}
use Rattle.term_walks.proofs.TreeLaws.{shape-node}
use Rattle.term_walks.proofs.NodeLaws.{In-below, same-index}
use Rattle.term_order.specs.Firsts.{firsts_after, firsts}
use Rattle.term_order.specs.Walks.{pushed, IsEntered, IsVisit, IsTaken, pending, weight, IsAbove, Among, IsKnown, IsListing}
use Rattle.term_order.proofs.FirstLaws.{kept_in, last_in, pass_seen}
use Rattle.term_order.proofs.SubtermLaws.{subterms_all, subterms-made, nodes_all, nodes-made}

-- what the stack holds
pending-push : (ts : List Tree) (qs : List ℕ) (x : ℕ) → pending ts (qs ++ x ∷ []) ≡ closed_subterms (tree_at ts x) ++ pending ts qs
pending-push ts [] x = sym (append-nil (closed_subterms (tree_at ts x)))
pending-push ts (q ∷ qs) x =
    ap (λ xs. xs ++ closed_subterms (tree_at ts q)) (pending-push ts qs x) ∙ append_assoc (closed_subterms (tree_at ts x)) (pending ts qs) (closed_subterms (tree_at ts q))

pending-pushed : (ts : List Tree) (qs ps : List ℕ) → pending ts (pushed qs ps) ≡ subterms_all (picked ts ps) ++ pending ts qs
pending-pushed ts qs [] = refl
pending-pushed ts qs (p ∷ ps) =
    pending-push ts (pushed qs ps) p ∙ ap (λ xs. closed_subterms (tree_at ts p) ++ xs) (pending-pushed ts qs ps)
    ∙ sym (append_assoc (closed_subterms (tree_at ts p)) (subterms_all (picked ts ps)) (pending ts qs))

weight-push : (ts : List Tree) (qs : List ℕ) (x : ℕ) → weight ts (qs ++ x ∷ []) ≡ weight ts qs + nodes (tree_at ts x)
weight-push ts [] x = refl
weight-push ts (q ∷ qs) x = let e = weight-push ts qs x in omega (arith, e)

weight-pushed : (ts : List Tree) (qs ps : List ℕ) → weight ts (pushed qs ps) ≡ weight ts qs + nodes_all (picked ts ps)
weight-pushed ts qs [] = omega arith
weight-pushed ts qs (p ∷ ps) = let e = weight-push ts (pushed qs ps) p in let f = weight-pushed ts qs ps in omega (arith, e, f)

In-pushed : (q : ℕ) (qs ps : List ℕ) → In q (pushed qs ps) → In q qs ⊎ In q ps
In-pushed q qs [] h = inl h
In-pushed q qs (p ∷ ps) h = go (In-parts q (pushed qs ps) (p ∷ []) h) (In-pushed q qs ps)
  where
    go : In q (pushed qs ps) ⊎ In q (p ∷ []) → (In q (pushed qs ps) → In q qs ⊎ In q ps) → In q qs ⊎ In q (p ∷ ps)
    go (inl m) rec = later (rec m)
      where
        later : In q qs ⊎ In q ps → In q qs ⊎ In q (p ∷ ps)
        later (inl a) = inl a
        later (inr b) = inr (inr b)
    go (inr (inl e)) rec = inr (inl e)
    go (inr (inr m)) rec = absurd m

-- what is above j
below-push : (j : ℕ) (ps : List ℕ) (x : ℕ) → AreBelow j ps → x < j → AreBelow j (ps ++ x ∷ [])
below-push j [] x a l = (l, tt)
below-push j (p ∷ ps) x a l = (a.0, below-push j ps x a.1 l)

below-last : (j : ℕ) (ps : List ℕ) (x : ℕ) → AreBelow j (ps ++ x ∷ []) → AreBelow j ps × (x < j)
below-last j [] x a = (tt, a.0)
below-last j (p ∷ ps) x a = let r = below-last j ps x a.1 in ((a.0, r.0), r.1)

above-last : (j q : ℕ) (ps : List ℕ) (x : ℕ) → IsAbove j q (ps ++ x ∷ []) → (x < j) × ((q ≡ x) ⊎ IsAbove j q ps)
above-last j q [] x (inl h) = (h.1, inl h.0)
above-last j q [] x (inr h) = absurd h
above-last j q (p ∷ ps) x (inl h) = let r = below-last j ps x h.2 in (r.1, inr (inl (h.0, h.1, r.0)))
above-last j q (p ∷ ps) x (inr h) = let r = above-last j q ps x h in (r.0, later r.1)
  where
    later : (q ≡ x) ⊎ IsAbove j q ps → (q ≡ x) ⊎ IsAbove j q (p ∷ ps)
    later (inl e) = inl e
    later (inr a) = inr (inr a)

above-push : (j q : ℕ) (ps : List ℕ) (x : ℕ) → x < j → IsAbove j q ps → IsAbove j q (ps ++ x ∷ [])
above-push j q [] x l h = absurd h
above-push j q (p ∷ ps) x l (inl h) = inl (h.0, h.1, below-push j ps x h.2 l)
above-push j q (p ∷ ps) x l (inr h) = inr (above-push j q ps x l h)

above-here : (j : ℕ) (ps : List ℕ) (x : ℕ) → x < j → IsAbove j x (ps ++ x ∷ [])
above-here j [] x l = inl (refl, l, tt)
above-here j (p ∷ ps) x l = inr (above-here j ps x l)

above-pushed : (j q : ℕ) (qs ps : List ℕ) → AreBelow j ps → IsAbove j q qs → IsAbove j q (pushed qs ps)
above-pushed j q qs [] b h = h
above-pushed j q qs (p ∷ ps) b h = above-push j q (pushed qs ps) p b.0 (above-pushed j q qs ps b.1 h)

above-part : (j q : ℕ) (qs ps : List ℕ) → AreBelow j ps → In q ps → IsAbove j q (pushed qs ps)
above-part j q qs [] b h = absurd h
above-part j q qs (p ∷ ps) b (inl e) = subst (λ x. IsAbove j x (pushed qs (p ∷ ps))) (sym e) (above-here j (pushed qs ps) p b.0)
above-part j q qs (p ∷ ps) b (inr h) = above-push j q (pushed qs ps) p b.0 (above-part j q qs ps b.1 h)

-- membership
among-append : (y : Tree) (xs ys : List Tree) → Among y (xs ++ ys) → Among y xs ⊎ Among y ys
among-append y [] ys h = inr h
among-append y (x ∷ xs) ys (inl e) = inl (inl e)
among-append y (x ∷ xs) ys (inr h) = go (among-append y xs ys h)
  where
    go : Among y xs ⊎ Among y ys → Among y (x ∷ xs) ⊎ Among y ys
    go (inl a) = inl (inr a)
    go (inr b) = inr b

among-all : (ts : List Tree) (ps : List ℕ) (y : Tree) → Among y (subterms_all (picked ts ps)) → (q : ℕ) × In q ps × Among y (closed_subterms (tree_at ts q))
among-all ts [] y h = absurd h
among-all ts (p ∷ ps) y h = go (among-append y (closed_subterms (tree_at ts p)) (subterms_all (picked ts ps)) h) (among-all ts ps y)
  where
    go : Among y (closed_subterms (tree_at ts p)) ⊎ Among y (subterms_all (picked ts ps)) → (Among y (subterms_all (picked ts ps)) → (q : ℕ) × In q ps × Among y (closed_subterms (tree_at ts q))) → (q : ℕ) × In q (p ∷ ps) × Among y (closed_subterms (tree_at ts q))
    go (inl a) rec = (p, inl refl, a)
    go (inr b) rec = let r = rec b in (r.0, inr r.1, r.2)

among-closed : (e y : Tree) (xs : List Tree) → Among y (where_closed e xs) → ((IsScoped 0 e × (y ≡ e)) ⊎ Among y xs)
among-closed e y xs h = go (is_scoped 0 e) refl h
  where
    go : (b : Bool) → is_scoped 0 e ≡ b → Among y (if_so b (e ∷ xs) xs) → ((IsScoped 0 e × (y ≡ e)) ⊎ Among y xs)
    go true z (inl q) = inl (scoped-true 0 e z, q)
    go true z (inr m) = inr m
    go false z m = inr m

-- the node at i
node-subterms : (ts : List Tree) (i : ℕ) (n : Node) → HasNode ts i n → closed_subterms (tree_at ts i) ≡ where_closed (tree_at ts i) (subterms_all (picked ts n.parts))
node-subterms ts i n g =
    ap closed_subterms g.tree ∙ subterms-made (node_kind n.head n.numbers) n.numbers (picked ts n.parts) (shape-node n.head n.numbers _ (fits-picked ts n g.node.0))
    ∙ ap (λ x. where_closed x (subterms_all (picked ts n.parts))) (sym g.tree)

pub node-nodes : (ts : List Tree) (i : ℕ) (n : Node) → HasNode ts i n → nodes (tree_at ts i) ≡ suc (nodes_all (picked ts n.parts))
node-nodes ts i n g =
    ap nodes g.tree ∙ nodes-made (node_kind n.head n.numbers) n.numbers (picked ts n.parts) (shape-node n.head n.numbers _ (fits-picked ts n g.node.0))

-- a node that was not seen was not found
not_found : (ts : List Tree) (found : List ℕ) (i : ℕ) → IsDistinct ts → AreBelow (length ts) found → i < length ts → (In i found → ⊥) → in_list (picked ts found) (tree_at ts i) ≡ false
not_found ts [] i d b l ne = refl
not_found ts (q ∷ qs) i d b l ne = go (same (tree_at ts q) (tree_at ts i)) refl (not_found ts qs i d b.1 l (λ m. ne (inr m)))
  where
    go : (c : Bool) → same (tree_at ts q) (tree_at ts i) ≡ c → in_list (picked ts qs) (tree_at ts i) ≡ false → either c (in_list (picked ts qs) (tree_at ts i)) ≡ false
    go true z h = absurd (ne (inl (sym (same-index ts q i d b.0 l z))))
    go false z h = h

-- an index that is entered
any-In : (xs : List ℕ) (i : ℕ) → list_any (is_at (nat_cmp i)) xs ≡ true → In i xs
any-In [] i h = cc
any-In (x ∷ xs) i h = go (is_at (nat_cmp i) x) refl h (any-In xs i)
  where
    go : (b : Bool) → is_at (nat_cmp i) x ≡ b → (b || list_any (is_at (nat_cmp i)) xs) ≡ true → (list_any (is_at (nat_cmp i)) xs ≡ true → In i xs) → In i (x ∷ xs)
    go true e h rec = inl (let z : i ≡ x = grind (arith, nat_tests) in z)
    go false e h rec = inr (rec h)

In-any : (xs : List ℕ) (i : ℕ) → In i xs → list_any (is_at (nat_cmp i)) xs ≡ true
In-any [] i h = absurd h
In-any (x ∷ xs) i (inl e) = ap (λ b. b || list_any (is_at (nat_cmp i)) xs) (ap (λ y. is_at (nat_cmp i) y) (sym e) ∙ itself)
  where
    itself : is_at (nat_cmp i) i ≡ true
    itself = grind (arith, nat_tests)
In-any (x ∷ xs) i (inr h) = second (is_at (nat_cmp i) x) (list_any (is_at (nat_cmp i)) xs) (In-any xs i h)
  where
    second : (b c : Bool) → c ≡ true → (b || c) ≡ true
    second true c e = refl
    second false c e = e

pub entered_of : (old new : List ℕ) (i : ℕ) (b : Bool) → b ≡ not (list_any (is_at (nat_cmp i)) old) → new ≡ insert_key nat_cmp old i → OnFalse b (new ≡ old) → IsEntered old new i b
entered_of old new i true e k u = (λ m. no (list_any (is_at (nat_cmp i)) old) (In-any old i m) e, inserted old new i k)
  where
    no : (c : Bool) → c ≡ true → true ≡ not c → ⊥
    no true z w = cc
    no false z w = cc
entered_of old new i false e k u = (any-In old i (yes (list_any (is_at (nat_cmp i)) old) e), u)
  where
    yes : (c : Bool) → false ≡ not c → c ≡ true
    yes true w = refl
    yes false w = cc

-- the start
pub listing_first : (ts : List Tree) (e : ℕ) (seen found stack : List ℕ) → seen ≡ [] → found ≡ [] → stack ≡ [] ++ e ∷ [] → e < length ts → IsListing ts e seen found stack
listing_first ts e seen found stack es ef ek l =
    subst (λ xs. IsListing ts e seen found xs) (sym ek) (subst (λ xs. IsListing ts e seen xs (e ∷ [])) (sym ef) (subst (λ xs. IsListing ts e xs [] (e ∷ [])) (sym es) (record {
      listed = refl;
      known = λ j m. absurd m;
      entered = λ q m. m;
      within = λ q m. within q m;
      below = tt;
    })))
  where
    within : (q : ℕ) → In q (e ∷ []) → q < length ts
    within q (inl z) = subst (λ x. x < length ts) (sym z) l
    within q (inr m) = absurd m

taken_within : (ts : List Tree) (e : ℕ) (seen found stack mid : List ℕ) (i : ℕ) → stack ≡ mid ++ i ∷ [] → IsListing ts e seen found stack → i < length ts
taken_within ts e seen found stack mid i z h = h.within i (subst (In i) (sym z) (In-append-right i mid (i ∷ []) (inl refl)))

pub listing_within : (ts : List Tree) (e : ℕ) (seen found stack mid : List ℕ) (i : ℕ) → stack ≡ mid ++ i ∷ [] → IsListing ts e seen found stack → i < length ts
listing_within ts e seen found stack mid i z h = taken_within ts e seen found stack mid i z h

-- a node that was seen: all that it holds was found
listing_skip : (ts : List Tree) (e : ℕ) (seen next found stack mid : List ℕ) (i : ℕ) → stack ≡ mid ++ i ∷ [] → IsEntered seen next i false → IsListing ts e seen found stack → IsListing ts e next found mid
listing_skip ts e seen next found stack mid i z old h =
    subst (λ xs. IsListing ts e xs found mid) (sym old.1) (record {
      listed = h.listed ∙ ap (λ xs. picked ts found ++ firsts_after (picked ts found) xs) (ap (pending ts) z ∙ pending-push ts mid i)
          ∙ ap (λ xs. picked ts found ++ xs) (pass_seen (picked ts found) (closed_subterms (tree_at ts i)) (pending ts mid) all);
      known = λ j m y a. known j y (h.known j m y a);
      entered = h.entered;
      within = λ q m. h.within q (subst (In q) (sym z) (In-append-left q mid (i ∷ []) m));
      below = h.below;
    })
  where
    all : (y : Tree) → Among y (closed_subterms (tree_at ts i)) → in_list (picked ts found) y ≡ true
    all y a = go (h.known i old.0 y a)
      where
        go : IsKnown ts found stack i y → in_list (picked ts found) y ≡ true
        go (inl t) = t
        go (inr r) = absurd (let l = (above-last i r.0 mid i (subst (IsAbove i r.0) z r.1)).0 in omega (arith, l))

    known : (j : ℕ) (y : Tree) → IsKnown ts found stack j y → IsKnown ts found mid j y
    known j y (inl t) = inl t
    known j y (inr r) = go (above-last j r.0 mid i (subst (IsAbove j r.0) z r.1)).1
      where
        go : (r.0 ≡ i) ⊎ IsAbove j r.0 mid → IsKnown ts found mid j y
        go (inl q) = inl (all y (subst (λ x. Among y (closed_subterms (tree_at ts x))) q r.2))
        go (inr a) = inr (r.0, a, r.2)

-- a new node
listing_visit : (ts : List Tree) (e : ℕ) (seen next found more stack mid new : List ℕ) (i : ℕ) → IsDistinct ts → stack ≡ mid ++ i ∷ [] → IsEntered seen next i true → IsVisit ts i found more mid new → IsListing ts e seen found stack → IsListing ts e next more new
listing_visit ts e seen next found more stack mid new i d z fresh v h =
    record {
      listed = h.listed ∙ ap (λ xs. picked ts found ++ firsts_after (picked ts found) xs) (ap (pending ts) z ∙ pending-push ts mid i ∙ ap (λ xs. xs ++ pending ts mid) (node-subterms ts i v.node v.stands)) ∙ listed v.found_is;
      known = λ j m y a. known j y ((fresh.1 j).0 m) a;
      entered = λ q m. entered q v.found_is m;
      within = λ q m. within q (In-pushed q mid v.node.parts (subst (In q) v.stack_is m));
      below = below v.found_is;
    }
  where
    x : Tree
    x = tree_at ts i

    found_more : Type 0
    found_more = (IsScoped 0 (tree_at ts i) × (more ≡ found ++ i ∷ [])) ⊎ ((IsScoped 0 (tree_at ts i) → ⊥) × (more ≡ found))

    at : i < length ts
    at = taken_within ts e seen found stack mid i z h

    rest : List Tree
    rest = subterms_all (picked ts v.node.parts) ++ pending ts mid

    stack_pending : subterms_all (picked ts v.node.parts) ++ pending ts mid ≡ pending ts new
    stack_pending = sym (ap (pending ts) v.stack_is ∙ pending-pushed ts mid v.node.parts)

    unseen : in_list (picked ts found) (tree_at ts i) ≡ false
    unseen = not_found ts found i d h.below at (λ m. fresh.0 (h.entered i m))

    grown : more ≡ found ++ i ∷ [] → picked ts more ≡ picked ts found ++ tree_at ts i ∷ []
    grown q = ap (picked ts) q ∙ picked-append ts found (i ∷ [])

    listed : (IsScoped 0 (tree_at ts i) × (more ≡ found ++ i ∷ [])) ⊎ ((IsScoped 0 (tree_at ts i) → ⊥) × (more ≡ found)) → picked ts found ++ firsts_after (picked ts found) (where_closed (tree_at ts i) (subterms_all (picked ts v.node.parts)) ++ pending ts mid) ≡ picked ts more ++ firsts_after (picked ts more) (pending ts new)
    listed (inl c) =
        ap (λ b. picked ts found ++ firsts_after (picked ts found) (if_so b (tree_at ts i ∷ subterms_all (picked ts v.node.parts)) (subterms_all (picked ts v.node.parts)) ++ pending ts mid)) (true-scoped 0 (tree_at ts i) c.0)
        ∙ ap (λ b. picked ts found ++ if_so b (firsts_after (picked ts found) (subterms_all (picked ts v.node.parts) ++ pending ts mid)) (tree_at ts i ∷ firsts_after (picked ts found ++ tree_at ts i ∷ []) (subterms_all (picked ts v.node.parts) ++ pending ts mid))) unseen
        ∙ sym (append_assoc (picked ts found) (tree_at ts i ∷ []) (firsts_after (picked ts found ++ tree_at ts i ∷ []) (subterms_all (picked ts v.node.parts) ++ pending ts mid)))
        ∙ (λ k. sym (grown c.1) k ++ firsts_after (sym (grown c.1) k) (stack_pending k))
    listed (inr c) =
        ap (λ b. picked ts found ++ firsts_after (picked ts found) (if_so b (tree_at ts i ∷ subterms_all (picked ts v.node.parts)) (subterms_all (picked ts v.node.parts)) ++ pending ts mid)) (unclosed (is_scoped 0 (tree_at ts i)) refl)
        ∙ (λ k. picked ts (sym c.1 k) ++ firsts_after (picked ts (sym c.1 k)) (stack_pending k))
      where
        unclosed : (b : Bool) → is_scoped 0 (tree_at ts i) ≡ b → is_scoped 0 (tree_at ts i) ≡ false
        unclosed true q = absurd (c.0 (scoped-true 0 (tree_at ts i) q))
        unclosed false q = q

    -- what was found stays found
    still : (y : Tree) → found_more → in_list (picked ts found) y ≡ true → in_list (picked ts more) y ≡ true
    still y (inl c) t = ap (λ xs. in_list xs y) (grown c.1) ∙ kept_in (picked ts found) (tree_at ts i) y t
    still y (inr c) t = ap (λ q. in_list (picked ts q) y) c.1 ∙ t

    itself : (y : Tree) → found_more → IsScoped 0 (tree_at ts i) → y ≡ tree_at ts i → in_list (picked ts more) y ≡ true
    itself y (inl c) s q = ap (λ xs. in_list xs y) (grown c.1) ∙ last_in (picked ts found) (tree_at ts i) y q
    itself y (inr c) s q = absurd (c.0 s)

    -- the closed subterms of the node, seen from j
    own : (j : ℕ) (y : Tree) → AreBelow j v.node.parts → Among y (closed_subterms (tree_at ts i)) → IsKnown ts more new j y
    own j y b a = go (among-closed (tree_at ts i) y (subterms_all (picked ts v.node.parts)) (subst (Among y) (node-subterms ts i v.node v.stands) a))
      where
        go : (IsScoped 0 (tree_at ts i) × (y ≡ tree_at ts i)) ⊎ Among y (subterms_all (picked ts v.node.parts)) → IsKnown ts more new j y
        go (inl c) = inl (itself y v.found_is c.0 c.1)
        go (inr m) = let r = among-all ts v.node.parts y m in inr (r.0, subst (IsAbove j r.0) (sym v.stack_is) (above-part j r.0 mid v.node.parts b r.1), r.2)

    known : (j : ℕ) (y : Tree) → (j ≡ i) ⊎ In j seen → Among y (closed_subterms (tree_at ts j)) → IsKnown ts more new j y
    known j y (inl q) a = own j y (subst (λ k. AreBelow k v.node.parts) (sym q) v.below) (subst (λ k. Among y (closed_subterms (tree_at ts k))) q a)
    known j y (inr m) a = go (h.known j m y a)
      where
        go : IsKnown ts found stack j y → IsKnown ts more new j y
        go (inl t) = inl (still y v.found_is t)
        go (inr r) = let u = above-last j r.0 mid i (subst (IsAbove j r.0) z r.1) in further u.0 u.1
          where
            further : i < j → (r.0 ≡ i) ⊎ IsAbove j r.0 mid → IsKnown ts more new j y
            further l (inl q) = own j y (AreBelow-more i j v.node.parts (omega arith) v.below) (subst (λ k. Among y (closed_subterms (tree_at ts k))) q r.2)
            further l (inr b) = inr (r.0, subst (IsAbove j r.0) (sym v.stack_is) (above-pushed j r.0 mid v.node.parts (AreBelow-more i j v.node.parts (omega arith) v.below) b), r.2)

    entered : (q : ℕ) → found_more → In q more → In q next
    entered q (inl c) m = go (In-parts q found (i ∷ []) (subst (In q) c.1 m))
      where
        go : In q found ⊎ In q (i ∷ []) → In q next
        go (inl a) = (fresh.1 q).1 (inr (h.entered q a))
        go (inr (inl k)) = (fresh.1 q).1 (inl k)
        go (inr (inr a)) = absurd a
    entered q (inr c) m = (fresh.1 q).1 (inr (h.entered q (subst (In q) c.1 m)))

    within : (q : ℕ) → In q mid ⊎ In q v.node.parts → q < length ts
    within q (inl m) = h.within q (subst (In q) (sym z) (In-append-left q mid (i ∷ []) m))
    within q (inr m) = In-below (length ts) v.node.parts v.stands.node.1 q m

    below : found_more → AreBelow (length ts) more
    below (inl c) = subst (AreBelow (length ts)) (sym c.1) (AreBelow-append (length ts) found (i ∷ []) h.below (at, tt))
    below (inr c) = subst (AreBelow (length ts)) (sym c.1) h.below

-- the end
pub listing_last : (ts : List Tree) (e : ℕ) (seen found stack : List ℕ) → stack ≡ [] → IsListing ts e seen found stack → picked ts found ≡ firsts (closed_subterms (tree_at ts e))
listing_last ts e seen found stack z h =
    sym (h.listed ∙ ap (λ qs. picked ts found ++ firsts_after (picked ts found) (pending ts qs)) z ∙ append-nil (picked ts found))

-- the nodes on the stack become fewer
some_nodes : (t : Tree) → 0 < nodes t
some_nodes (bound i) = omega arith
some_nodes (app f ps) = omega arith
some_nodes (node h ns ps) = omega arith
some_nodes (bind b ps e) = omega arith

lighter_skip : (ts : List Tree) (stack mid : List ℕ) (i : ℕ) → stack ≡ mid ++ i ∷ [] → weight ts mid < weight ts stack
lighter_skip ts stack mid i z =
    let e = ap (weight ts) z ∙ weight-push ts mid i in let s = some_nodes (tree_at ts i) in omega (arith, e, s)

lighter_visit : (ts : List Tree) (stack mid new found more : List ℕ) (i : ℕ) → stack ≡ mid ++ i ∷ [] → IsVisit ts i found more mid new → weight ts new < weight ts stack
lighter_visit ts stack mid new found more i z v =
    let e = ap (weight ts) z ∙ weight-push ts mid i in
    let n = node-nodes ts i v.node v.stands in
    let w = ap (weight ts) v.stack_is ∙ weight-pushed ts mid v.node.parts in
    omega (arith, e, n, w)

-- a node that is taken
pub was_seen : (ts : List Tree) (i : ℕ) (seen entered found stack : List ℕ) (b : Bool) → b ≡ false → IsEntered seen entered i b → IsTaken ts i seen entered found found stack stack
was_seen ts i seen entered found stack b e h = inl (subst (IsEntered seen entered i) e h, refl, refl)

pub was_new : {T E : Type 0} (r : Result T E) (ts : List Tree) (i : ℕ) (seen entered found more stack next : List ℕ) (b : Bool) → b ≡ true → IsEntered seen entered i b → OnOk r (IsVisit ts i found more stack next) → OnOk r (IsTaken ts i seen entered found more stack next)
was_new (Ok x) ts i seen entered found more stack next b e h v = inr (subst (IsEntered seen entered i) e h, v)
was_new (Err z) ts i seen entered found more stack next b e h v = v

pub listing_taken : (ts : List Tree) (e : ℕ) (seen entered found more stack mid next : List ℕ) (i : ℕ) → IsDistinct ts → stack ≡ mid ++ i ∷ [] → IsTaken ts i seen entered found more mid next → IsListing ts e seen found stack → IsListing ts e entered more next
listing_taken ts e seen entered found more stack mid next i d z (inl t) h =
    subst (λ xs. IsListing ts e entered xs next) (sym t.1) (subst (IsListing ts e entered found) (sym t.2) (listing_skip ts e seen entered found stack mid i z t.0 h))
listing_taken ts e seen entered found more stack mid next i d z (inr t) h =
    listing_visit ts e seen entered found more stack mid next i d z t.0 t.1 h

pub lighter_taken : (ts : List Tree) (seen entered found more stack mid next : List ℕ) (i : ℕ) → stack ≡ mid ++ i ∷ [] → IsTaken ts i seen entered found more mid next → weight ts next < weight ts stack
lighter_taken ts seen entered found more stack mid next i z (inl t) =
    subst (λ qs. weight ts qs < weight ts stack) (sym t.2) (lighter_skip ts stack mid i z)
lighter_taken ts seen entered found more stack mid next i z (inr t) = lighter_visit ts stack mid next found more i z t.1
