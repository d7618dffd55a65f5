-- Laws of walks from a node down.
use Rattle.std.proofs.Common.{◌≡◌, ℕ, zero, suc, ◌+◌, ◌<◌, ◌≤◌, Bool, true, false, Option, None, List, [], ◌∷◌, ◌++◌, length, get_or, take, drop, refl, ap, sym, ◌∙◌, arith, subst, inl, inr, is_some}
use Rattle.std.specs.Prelude.{◌⊎◌, ◌↔◌}
use Rattle.std.proofs.lemmas.List.{take_more, take_all}
use Rattle.core_expr.specs.Tree.{Tree, true_}
use Rattle.core_expr.specs.Terms.{same}
use Rattle.core_expr.specs.Nodes.{Node, AreBelow, picked, node_kind}
use Rattle.search_definition.specs.Terms.{either, occurs}
use Rattle.term_bank.specs.Banks.{IsDistinct, HasNode}
use Rattle.term_bank.specs.Images.{In, found, height}
use Rattle.term_bank.proofs.TableLaws.{fits-picked}
use Rattle.term_bank.proofs.MarkLaws.{In-append-left, In-append-right, In-parts, height-In, height-le, is_last}
use Rattle.term_walks.specs.Walks.{IsAdded, HasParts, IsTurn, AreWalked, IsWalk, IsSought}
use Rattle.term_walks.proofs.TreeLaws.{occurs_any, occurs-made, occurs-self, shape-node}
use Rattle.term_walks.proofs.NodeLaws.{In-below, same-index, index-same}

-- adding parts one by one
pub parts_none : (xs ps : List ℕ) (q : ℕ) → In q xs ↔ (In q (take 0 ps) ⊎ In q xs)
parts_none xs ps q = (λ h. inr h, λ h. go h)
  where
    go : In q (take 0 ps) ⊎ In q xs → In q xs
    go (inl h) = absurd h
    go (inr h) = h

pub parts_more : (ps : List ℕ) (k p : ℕ) (old mid new : List ℕ) → k < length ps → p ≡ get_or ps k 0 → ((q : ℕ) → In q new ↔ ((q ≡ p) ⊎ In q mid)) → ((q : ℕ) → In q mid ↔ (In q (take k ps) ⊎ In q old)) → (q : ℕ) → In q new ↔ (In q (take (k + 1) ps) ⊎ In q old)
parts_more ps k p old mid new l e f g q =
    (λ h. to ((f q).0 h), λ h. back (case_of h))
  where
    step : take (k + 1) ps ≡ take k ps ++ get_or ps k 0 ∷ []
    step = take_more ps k 0 l

    among : In q (take k ps) ⊎ In q old → In q (take (k + 1) ps) ⊎ In q old
    among (inl h) = inl (subst (In q) (sym step) (In-append-left q (take k ps) (get_or ps k 0 ∷ []) h))
    among (inr h) = inr h

    to : (q ≡ p) ⊎ In q mid → In q (take (k + 1) ps) ⊎ In q old
    to (inl z) = inl (subst (In q) (sym step) (In-append-right q (take k ps) (get_or ps k 0 ∷ []) (inl (z ∙ e))))
    to (inr h) = among ((g q).0 h)

    last : In q (take k ps) ⊎ In q (get_or ps k 0 ∷ []) → (q ≡ p) ⊎ In q mid
    last (inl h) = inr ((g q).1 (inl h))
    last (inr (inl z)) = inl (z ∙ sym e)
    last (inr (inr h)) = absurd h

    case_of : In q (take (k + 1) ps) ⊎ In q old → (q ≡ p) ⊎ In q mid
    case_of (inl h) = last (In-parts q (take k ps) (get_or ps k 0 ∷ []) (subst (In q) step h))
    case_of (inr h) = inr ((g q).1 (inr h))

    back : (q ≡ p) ⊎ In q mid → In q new
    back h = (f q).1 h

pub parts_all : (ps : List ℕ) (k : ℕ) (old new : List ℕ) → length ps ≤ k → ((q : ℕ) → In q new ↔ (In q (take k ps) ⊎ In q old)) → (q : ℕ) → In q new ↔ (In q ps ⊎ In q old)
parts_all ps k old new l f q = subst (λ xs. In q new ↔ (In q xs ⊎ In q old)) (take_all k ps l) (f q)

pub added_of : (ts : List Tree) (i : ℕ) (n : Node) (ps old new : List ℕ) → HasNode ts i n → AreBelow i n.parts → ps ≡ n.parts → ((q : ℕ) → In q new ↔ (In q ps ⊎ In q old)) → IsAdded ts i old new
added_of ts i n ps old new h b e f =
    record { node = n; stands = h; below = b; members = λ q. subst (λ xs. In q new ↔ (In q xs ⊎ In q old)) e (f q) }

-- a turn of the walk
pub no_turn : (ts : List Tree) (images : List (ℕ × ℕ)) (i : ℕ) (old new : List ℕ) → is_some (found i images) ≡ true → new ≡ old → IsTurn ts images i old new
no_turn ts images i old new h e =
    record {
      kept = λ q m. subst (In q) (sym e) m;
      parts = λ n. absurd (go (found i images) n h);
      only = λ q m. inl (subst (In q) e m);
    }
  where
    go : (o : Option ℕ) → o ≡ None → is_some o ≡ true → ⊥
    go o n h = cc (ap is_some n)

pub turn_of : (ts : List Tree) (images : List (ℕ × ℕ)) (i : ℕ) (old new : List ℕ) → IsAdded ts i old new → IsTurn ts images i old new
turn_of ts images i old new a =
    record {
      kept = λ q m. (a.members q).1 (inr m);
      parts = λ n. record { node = a.node; stands = a.stands; below = a.below; parts = λ q m. (a.members q).1 (inl m) };
      only = λ q m. go q ((a.members q).0 m);
    }
  where
    go : (q : ℕ) → In q a.node.parts ⊎ In q old → In q old ⊎ (q < i)
    go q (inl m) = inr (In-below i a.node.parts a.below q m)
    go q (inr m) = inl m

-- the walk's list
walked_push : (ts : List Tree) (images : List (ℕ × ℕ)) (done old new : List ℕ) (k : ℕ) → ((q : ℕ) → In q old → In q (k ∷ new)) → k < length ts → (found k images ≡ None → HasParts ts k new) → AreWalked ts images done old → AreWalked ts images (done ++ k ∷ []) new
walked_push ts images [] old new k f l p a = (l, p, tt)
walked_push ts images (i ∷ is) old new k f l p a = (a.0, (λ n. moved_on (a.1 n)), walked_push ts images is old new k f l p a.2)
  where
    last : (q : ℕ) → In q (k ∷ new) → In q ((is ++ k ∷ []) ++ new)
    last q (inl e) = In-append-left q (is ++ k ∷ []) new (In-append-right q is (k ∷ []) (inl e))
    last q (inr h) = In-append-right q (is ++ k ∷ []) new h

    move : (q : ℕ) → In q is ⊎ In q old → In q ((is ++ k ∷ []) ++ new)
    move q (inl h) = In-append-left q (is ++ k ∷ []) new (In-append-left q is (k ∷ []) h)
    move q (inr h) = last q (f q h)

    moved_on : HasParts ts i (is ++ old) → HasParts ts i ((is ++ k ∷ []) ++ new)
    moved_on h = record { node = h.node; stands = h.stands; below = h.below; parts = λ q m. move q (In-parts q is old (h.parts q m)) }

pub walk_first : (ts : List Tree) (images : List (ℕ × ℕ)) (e : ℕ) (done none todo : List ℕ) → done ≡ [] → none ≡ [] → e < length ts → ((q : ℕ) → In q todo ↔ ((q ≡ e) ⊎ In q none)) → IsWalk ts images e done todo
walk_first ts images e done none todo ed en l f =
    record {
      walked = subst (λ is. AreWalked ts images is todo) (sym ed) tt;
      within = λ q h. go q ((f q).0 h);
      has_start = subst (λ is. In e (is ++ todo)) (sym ed) ((f e).1 (inl refl));
    }
  where
    go : (q : ℕ) → (q ≡ e) ⊎ In q none → q < length ts
    go q (inl w) = subst (λ x. x < length ts) (sym w) l
    go q (inr h) = absurd (subst (In q) en h)

abbrev put_off : (k : ℕ) (old mid : List ℕ) → old ≡ mid ++ k ∷ [] → (q : ℕ) → In q old → (q ≡ k) ⊎ In q mid
put_off k old mid e q h = go (In-parts q mid (k ∷ []) (subst (In q) e h))
  where
    go : In q mid ⊎ In q (k ∷ []) → (q ≡ k) ⊎ In q mid
    go (inl m) = inr m
    go (inr (inl z)) = inl z
    go (inr (inr m)) = absurd m

pub stays_in : (k q : ℕ) (old mid : List ℕ) → old ≡ mid ++ k ∷ [] → In q mid → In q old
stays_in k q old mid e h = subst (In q) (sym e) (In-append-left q mid (k ∷ []) h)

pub walk_turn : (ts : List Tree) (images : List (ℕ × ℕ)) (e k : ℕ) (done out old mid new : List ℕ) → out ≡ done ++ k ∷ [] → old ≡ mid ++ k ∷ [] → IsTurn ts images k mid new → IsWalk ts images e done old → IsWalk ts images e out new
walk_turn ts images e k done out old mid new eo em s a =
    record {
      walked = subst (λ is. AreWalked ts images is new) (sym eo) (walked_push ts images done old new k off within s.parts a.walked);
      within = λ q h. go q (s.only q h);
      has_start = subst (λ is. In e (is ++ new)) (sym eo) (start_in (In-parts e done old a.has_start));
    }
  where
    off : (q : ℕ) → In q old → In q (k ∷ new)
    off q h = later (put_off k old mid em q h)
      where
        later : (q ≡ k) ⊎ In q mid → In q (k ∷ new)
        later (inl z) = inl z
        later (inr m) = inr (s.kept q m)

    within : k < length ts
    within = a.within k (is_last k old mid em)

    go : (q : ℕ) → In q mid ⊎ (q < k) → q < length ts
    go q (inl h) = a.within q (stays_in k q old mid em h)
    go q (inr h) = omega (arith, h, within)

    from_old : In e (k ∷ new) → In e ((done ++ k ∷ []) ++ new)
    from_old (inl z) = In-append-left e (done ++ k ∷ []) new (In-append-right e done (k ∷ []) (inl z))
    from_old (inr h) = In-append-right e (done ++ k ∷ []) new h

    start_in : In e done ⊎ In e old → In e ((done ++ k ∷ []) ++ new)
    start_in (inl h) = In-append-left e (done ++ k ∷ []) new (In-append-left e done (k ∷ []) h)
    start_in (inr h) = from_old (off e h)

pub lower : (k : ℕ) (old mid new : List ℕ) → old ≡ mid ++ k ∷ [] → ((q : ℕ) → In q mid → q < k) → ((q : ℕ) → In q new → In q mid ⊎ (q < k)) → height new < height old
lower k old mid new em b only =
    let up : k < height old = height-In k old (is_last k old mid em) in
    let down : height new ≤ k = height-le k new (λ q h. go q (only q h)) in
    omega arith
  where
    go : (q : ℕ) → In q mid ⊎ (q < k) → q < k
    go q (inl h) = b q h
    go q (inr h) = h

pub added_only : (ts : List Tree) (k : ℕ) (mid new : List ℕ) → IsAdded ts k mid new → (q : ℕ) → In q new → In q mid ⊎ (q < k)
added_only ts k mid new a q m = go ((a.members q).0 m)
  where
    go : In q a.node.parts ⊎ In q mid → In q mid ⊎ (q < k)
    go (inl h) = inr (In-below k a.node.parts a.below q h)
    go (inr h) = inl h

pub walked_at : (ts : List Tree) (images : List (ℕ × ℕ)) (done todo : List ℕ) (m : ℕ) → AreWalked ts images done todo → m < length done → (get_or done m 0 < length ts) × (found (get_or done m 0) images ≡ None → HasParts ts (get_or done m 0) (drop (suc m) done ++ todo))
walked_at ts images [] todo m a h = absurd (omega arith)
walked_at ts images (x ∷ xs) todo zero a h = (a.0, a.1)
walked_at ts images (x ∷ xs) todo (suc m) a h = walked_at ts images xs todo m a.2 (omega arith)

-- looking for a term
any-In : (s : Tree) (ts : List Tree) (ps : List ℕ) → occurs_any s (picked ts ps) ≡ true → (q : ℕ) × In q ps × (occurs s (get_or ts q true_) ≡ true)
any-In s ts [] h = cc
any-In s ts (p ∷ ps) h = go (occurs s (get_or ts p true_)) refl h (any-In s ts ps)
  where
    later : ((q : ℕ) × In q ps × (occurs s (get_or ts q true_) ≡ true)) → (q : ℕ) × In q (p ∷ ps) × (occurs s (get_or ts q true_) ≡ true)
    later r = (r.0, inr r.1, r.2)

    go : (b : Bool) → occurs s (get_or ts p true_) ≡ b → either b (occurs_any s (picked ts ps)) ≡ true → (occurs_any s (picked ts ps) ≡ true → (q : ℕ) × In q ps × (occurs s (get_or ts q true_) ≡ true)) → (q : ℕ) × In q (p ∷ ps) × (occurs s (get_or ts q true_) ≡ true)
    go true e h rec = (p, inl refl, e)
    go false e h rec = later (rec h)

either_second : (a b : Bool) → b ≡ true → either a b ≡ true
either_second true b h = refl
either_second false b h = h

In-any : (s : Tree) (ts : List Tree) (ps : List ℕ) (q : ℕ) → In q ps → occurs s (get_or ts q true_) ≡ true → occurs_any s (picked ts ps) ≡ true
In-any s ts [] q m h = absurd m
In-any s ts (p ∷ ps) q (inl e) h = ap (λ b. either b (occurs_any s (picked ts ps))) (ap (λ x. occurs s (get_or ts x true_)) (sym e) ∙ h)
In-any s ts (p ∷ ps) q (inr m) h = either_second (occurs s (get_or ts p true_)) (occurs_any s (picked ts ps)) (In-any s ts ps q m h)

not_same : (ts : List Tree) (s i : ℕ) → IsDistinct ts → s < length ts → i < length ts → (i ≡ s → ⊥) → same (get_or ts s true_) (get_or ts i true_) ≡ false
not_same ts s i d k l ne = go (same (get_or ts s true_) (get_or ts i true_)) refl
  where
    go : (b : Bool) → same (get_or ts s true_) (get_or ts i true_) ≡ b → same (get_or ts s true_) (get_or ts i true_) ≡ false
    go true e = absurd (ne (sym (same-index ts s i d k l e)))
    go false e = e

-- a node that is not s
occurs-node : (ts : List Tree) (s : Tree) (i : ℕ) (n : Node) → HasNode ts i n → same s (get_or ts i true_) ≡ false → occurs s (get_or ts i true_) ≡ occurs_any s (picked ts n.parts)
occurs-node ts s i n h e =
    ap (occurs s) h.tree ∙ occurs-made s (node_kind n.head n.numbers) n.numbers (picked ts n.parts) (shape-node n.head n.numbers _ (fits-picked ts n h.node.0)) (ap (same s) (sym h.tree) ∙ e)

pub sought_first : (ts : List Tree) (s e : ℕ) (none todo : List ℕ) → none ≡ [] → e < length ts → ((q : ℕ) → In q todo ↔ ((q ≡ e) ⊎ In q none)) → IsSought ts s e todo
sought_first ts s e none todo en l f =
    record {
      within = λ q h. subst (λ x. x < length ts) (sym (is_start q ((f q).0 h))) l;
      up = λ q h o. subst (λ x. occurs (get_or ts s true_) (get_or ts x true_) ≡ true) (is_start q ((f q).0 h)) o;
      down = λ o. (e, (f e).1 (inl refl), o);
    }
  where
    is_start : (q : ℕ) → (q ≡ e) ⊎ In q none → q ≡ e
    is_start q (inl z) = z
    is_start q (inr h) = absurd (subst (In q) en h)

pub sought_turn : (ts : List Tree) (s e k : ℕ) (old mid new : List ℕ) → IsDistinct ts → s < length ts → (k ≡ s → ⊥) → old ≡ mid ++ k ∷ [] → IsAdded ts k mid new → IsSought ts s e old → IsSought ts s e new
sought_turn ts s e k old mid new d ls ne em a h =
    record {
      within = λ q m. within q ((a.members q).0 m);
      up = λ q m o. up q ((a.members q).0 m) o;
      down = λ o. down (h.down o);
    }
  where
    taken : k < length ts
    taken = h.within k (is_last k old mid em)

    node : occurs (get_or ts s true_) (get_or ts k true_) ≡ occurs_any (get_or ts s true_) (picked ts a.node.parts)
    node = occurs-node ts (get_or ts s true_) k a.node a.stands (not_same ts s k d ls taken ne)

    within : (q : ℕ) → In q a.node.parts ⊎ In q mid → q < length ts
    within q (inl m) = In-below (length ts) a.node.parts a.stands.node.1 q m
    within q (inr m) = h.within q (stays_in k q old mid em m)

    up : (q : ℕ) → In q a.node.parts ⊎ In q mid → occurs (get_or ts s true_) (get_or ts q true_) ≡ true → occurs (get_or ts s true_) (get_or ts e true_) ≡ true
    up q (inl m) o = h.up k (is_last k old mid em) (node ∙ In-any (get_or ts s true_) ts a.node.parts q m o)
    up q (inr m) o = h.up q (stays_in k q old mid em m) o

    below : ((q : ℕ) × In q a.node.parts × (occurs (get_or ts s true_) (get_or ts q true_) ≡ true)) → (q : ℕ) × In q new × (occurs (get_or ts s true_) (get_or ts q true_) ≡ true)
    below r = (r.0, (a.members r.0).1 (inl r.1), r.2)

    down : ((q : ℕ) × In q old × (occurs (get_or ts s true_) (get_or ts q true_) ≡ true)) → (q : ℕ) × In q new × (occurs (get_or ts s true_) (get_or ts q true_) ≡ true)
    down r = go (put_off k old mid em r.0 r.1)
      where
        go : (r.0 ≡ k) ⊎ In r.0 mid → (q : ℕ) × In q new × (occurs (get_or ts s true_) (get_or ts q true_) ≡ true)
        go (inl z) = below (any-In (get_or ts s true_) ts a.node.parts (sym node ∙ ap (λ x. occurs (get_or ts s true_) (get_or ts x true_)) (sym z) ∙ r.2))
        go (inr m) = (r.0, (a.members r.0).1 (inr m), r.2)

pub sought_found : (ts : List Tree) (s e k : ℕ) (old mid : List ℕ) → k ≡ s → old ≡ mid ++ k ∷ [] → IsSought ts s e old → true ≡ occurs (get_or ts s true_) (get_or ts e true_)
sought_found ts s e k old mid z em h =
    sym (h.up k (is_last k old mid em) (occurs-self (get_or ts s true_) (get_or ts k true_) (index-same ts s k (sym z))))

pub sought_none : (ts : List Tree) (s e : ℕ) (todo : List ℕ) → todo ≡ [] → IsSought ts s e todo → false ≡ occurs (get_or ts s true_) (get_or ts e true_)
sought_none ts s e todo en h = go (occurs (get_or ts s true_) (get_or ts e true_)) refl
  where
    go : (b : Bool) → occurs (get_or ts s true_) (get_or ts e true_) ≡ b → false ≡ occurs (get_or ts s true_) (get_or ts e true_)
    go true z = let r = h.down z in absurd (subst (In r.0) en r.1)
    go false z = sym z
