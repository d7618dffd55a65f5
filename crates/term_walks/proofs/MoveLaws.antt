-- Laws of putting terms in for others over shared nodes.
use Rattle.std.proofs.Common.{◌≡◌, ℕ, suc, ◌+◌, ◌-◌, ◌<◌, ◌≤◌, Bool, true, false, cond, Option, Some, None, List, [], ◌∷◌, ◌++◌, length, map, get_or, take, drop, refl, ap, sym, ◌∙◌, arith, subst, inl, inr, append-nil, is_some, Result, Ok, Err}
use Rattle.std.specs.Prelude.{IfOk, IsSome}
use Rattle.std.specs.Ordering.{nat_cmp}
use Rattle.std.specs.BTreeMap.{is_at}
use Rattle.std.proofs.lemmas.Bool.Decides.{nat_tests}
use Rattle.std.proofs.lemmas.List.{drop_more, take_more, map-append}
use Rattle.core_expr.specs.Tree.{Tree, true_}
use Rattle.core_expr.specs.Terms.{same}
use Rattle.core_expr.specs.Put.{IsScoped}
use Rattle.core_expr.specs.Nodes.{Node, AreBelow, node_kind, node_make, picked}
use Rattle.core_expr.proofs.Equal.{same-true}
use Rattle.search_definition.specs.Terms.{if_so, replace}
use Rattle.term_bank.specs.Banks.{IsDistinct, Extends, HasNode, HasTree}
use Rattle.term_bank.specs.Images.{In, found}
use Rattle.term_bank.proofs.TableLaws.{fits-picked}
use Rattle.term_bank.proofs.InstLaws.{longer}
use Rattle.term_walks.specs.Moved.{moved}
use Rattle.term_walks.specs.Walks.{or_index, image_at, tree_for, given, AreWithin, HasParts, IsWalk, IsRemade, KeepsImage, AreMoved}
use Rattle.term_walks.proofs.TreeLaws.{moved-made, moved-given, moved-replace, shape-node}
use Rattle.term_walks.proofs.NodeLaws.{HasTree-more, HasNode-more, one_node, picked-map, same-index, index-same}
use Rattle.term_walks.proofs.WalkLaws.{walked_at}

pub at_key : (i q : ℕ) → is_at (nat_cmp i) q ≡ true → i ≡ q
at_key i q h = grind (arith, nat_tests)

pub at_itself : (i : ℕ) → is_at (nat_cmp i) i ≡ true
at_itself i = grind (arith, nat_tests)

-- what the pairs give for the trees of a bank
abbrev pub KeysWithin : ℕ → List (ℕ × ℕ) → Type 0
KeysWithin n es = (q k : ℕ) → found q es ≡ Some k → q < n

tail_within : (n : ℕ) (p : ℕ × ℕ) (es : List (ℕ × ℕ)) → KeysWithin n (p ∷ es) → KeysWithin n es
tail_within n p es h q k e = go (is_at (nat_cmp q) p.0) refl
  where
    go : (b : Bool) → is_at (nat_cmp q) p.0 ≡ b → q < n
    go true z = h q p.1 (ap (λ b. cond b (Some p.1) (found q es)) z)
    go false z = h q k (ap (λ b. cond b (Some p.1) (found q es)) z ∙ e)

pub given-at : (ts : List Tree) (es : List (ℕ × ℕ)) (q : ℕ) → IsDistinct ts → KeysWithin (length ts) es → q < length ts → given ts es (get_or ts q true_) ≡ tree_for ts (found q es)
given-at ts [] q d w l = refl
given-at ts (p ∷ es) q d w l = go (is_at (nat_cmp q) p.0) refl (same (get_or ts p.0 true_) (get_or ts q true_)) refl (given-at ts es q d (tail_within (length ts) p es w) l)
  where
    first : p.0 < length ts
    first = w p.0 p.1 (ap (λ b. cond b (Some p.1) (found p.0 es)) (at_itself p.0))

    go : (b : Bool) → is_at (nat_cmp q) p.0 ≡ b → (c : Bool) → same (get_or ts p.0 true_) (get_or ts q true_) ≡ c → given ts es (get_or ts q true_) ≡ tree_for ts (found q es)
        → if_so c (Some (get_or ts p.1 true_)) (given ts es (get_or ts q true_)) ≡ tree_for ts (cond b (Some p.1) (found q es))
    go true z true y ih = refl
    go false z false y ih = ih
    go true z false y ih = cc (index-same ts p.0 q (sym (at_key q p.0 z)))
    go false z true y ih = cc (ap (λ x. is_at (nat_cmp q) x) (same-index ts p.0 q d first l y) ∙ at_itself q)

-- what the pairs give something for stands in the bank
pub given-key : (ts : List Tree) (es : List (ℕ × ℕ)) (x w : Tree) → KeysWithin (length ts) es → given ts es x ≡ Some w → (q : ℕ) × (q < length ts) × (get_or ts q true_ ≡ x)
given-key ts [] x w k h = cc
given-key ts (p ∷ es) x w k h =
    go (same (get_or ts p.0 true_) x) refl h (given-key ts es x w (tail_within (length ts) p es k))
  where
    go : (b : Bool) → same (get_or ts p.0 true_) x ≡ b → if_so b (Some (get_or ts p.1 true_)) (given ts es x) ≡ Some w → (given ts es x ≡ Some w → (q : ℕ) × (q < length ts) × (get_or ts q true_ ≡ x)) → (q : ℕ) × (q < length ts) × (get_or ts q true_ ≡ x)
    go true e h rec = (p.0, k p.0 p.1 (ap (λ b. cond b (Some p.1) (found p.0 es)) (at_itself p.0)), same-true (get_or ts p.0 true_) x e)
    go false e h rec = rec h

-- before the first turn
pub moved_first : (ts : List Tree) (es : List (ℕ × ℕ)) (done : List ℕ) → IsDistinct ts → AreWithin (length ts) es → done ≡ [] → AreMoved ts ts (given ts es) es done
moved_first ts es done d w e =
    record {
      right = λ q k l f. record { within = (w q k f).1; tree = sym (moved-given (given ts es) (get_or ts q true_) (get_or ts k true_) (at q l ∙ ap (tree_for ts) f)) };
      others = λ q l f. at q l ∙ ap (tree_for ts) f;
      has = λ q m. absurd (subst (In q) e m);
    }
  where
    at : (q : ℕ) → q < length ts → given ts es (get_or ts q true_) ≡ tree_for ts (found q es)
    at q l = given-at ts es q d (λ x k f. (w x k f).0) l

-- the image of a node
remade_moved : (ts now : List Tree) (r : Tree → Option Tree) (images : List (ℕ × ℕ)) (i : ℕ) (others : List ℕ) (a : HasParts ts i others) → r (get_or ts i true_) ≡ None → ((q : ℕ) → In q others → HasTree now (image_at images q) (moved r (get_or ts q true_))) → node_make a.node.head a.node.numbers (picked now (map (image_at images) a.node.parts)) ≡ moved r (get_or ts i true_)
remade_moved ts now r images i others a none has =
    ap (node_make n.head n.numbers) (picked-map ts now (image_at images) (moved r) n.parts (λ q m. (has q (a.parts q m)).tree))
    ∙ sym (moved-made r (node_kind n.head n.numbers) n.numbers (picked ts n.parts) (shape-node n.head n.numbers _ (fits-picked ts n a.stands.node.0)) (ap r (sym a.stands.tree) ∙ none))
    ∙ ap (moved r) (sym a.stands.tree)
  where
    n : Node
    n = a.node

-- the images of parts
pub image_within : (n : ℕ) (es : List (ℕ × ℕ)) (q : ℕ) → AreWithin n es → q < n → image_at es q < n
image_within n es q w l = go (found q es) refl
  where
    go : (o : Option ℕ) → found q es ≡ o → or_index o q < n
    go None e = l
    go (Some k) e = (w q k e).1

pub images_below : (n i : ℕ) (es : List (ℕ × ℕ)) (ps qs : List ℕ) → AreWithin n es → i < n → AreBelow i ps → qs ≡ map (image_at es) ps → AreBelow n qs
images_below n i es ps qs w l b e = subst (AreBelow n) (sym e) (go ps b)
  where
    go : (xs : List ℕ) → AreBelow i xs → AreBelow n (map (image_at es) xs)
    go [] b = tt
    go (x ∷ xs) b = (image_within n es x w (let y = b.0 in omega arith), go xs b.1)

pub images_more : (f : ℕ → ℕ) (ps old new : List ℕ) (k x : ℕ) → k < length ps → x ≡ f (get_or ps k 0) → new ≡ old ++ x ∷ [] → old ≡ map f (take k ps) → new ≡ map f (take (k + 1) ps)
images_more f ps old new k x l ex en h =
    en ∙ (λ i. h i ++ ex i ∷ []) ∙ sym (ap (map f) (take_more ps k 0 l) ∙ map-append f (take k ps) (get_or ps k 0 ∷ []))

pub remade_of : {E : Type 0} (r : Result ℕ E) (ts now : List Tree) (es : List (ℕ × ℕ)) (i : ℕ) (n : Node) (ns ps : List ℕ) → IsDistinct ts → HasNode ts i n → ns ≡ n.numbers → ps ≡ map (image_at es) n.parts → IfOk r (λ k. HasTree now k (node_make n.head ns (picked ts ps))) → IfOk r (λ k. IsRemade ts now es i k)
remade_of (Err z) ts now es i n ns ps d g en ep h = h
remade_of (Ok k) ts now es i n ns ps d g en ep h = (
  h.within,
  λ m w. let z : n ≡ m = one_node ts i n m d g w in
      subst (λ (x : Node). HasTree now k (node_make x.head x.numbers (picked ts (map (image_at es) x.parts)))) z (record { within = h.within; tree = h.tree ∙ (λ j. node_make n.head (en j) (picked ts (ep j))) }),
)

pub kept_of : (ts now : List Tree) (i k : ℕ) (old new : List (ℕ × ℕ)) (b : Bool) → b ≡ is_some (found i old) → b ≡ false → IsRemade ts now old i k → ((q : ℕ) → found q new ≡ cond (is_at (nat_cmp i) q) (Some k) (found q old)) → KeepsImage ts now i old new
kept_of ts now i k old new b e f m g = inr (record { none = none (found i old) (sym e ∙ f); index = k; remade = m; images = g })
  where
    none : (o : Option ℕ) → is_some o ≡ false → o ≡ None
    none None h = refl
    none (Some x) h = cc

pub had : (ts : List Tree) (i : ℕ) (old new : List (ℕ × ℕ)) (b : Bool) → b ≡ is_some (found i old) → b ≡ true → new ≡ old → KeepsImage ts ts i old new
had ts i old new b e f z = inl (has (found i old) (sym e ∙ f), z)
  where
    has : (o : Option ℕ) → is_some o ≡ true → IsSome o
    has o h = h

some_same : (x y : ℕ) → Some x ≡ Some y → x ≡ y
some_same x y q = cc

-- a turn at the node i
turn : (ts now new : List Tree) (r : Tree → Option Tree) (i : ℕ) (old next : List (ℕ × ℕ)) (later : List ℕ) → Extends ts now → Extends now new → i < length ts → (found i old ≡ None → HasParts ts i later) → AreMoved ts now r old later → KeepsImage now new i old next → AreMoved ts new r next (i ∷ later)
turn ts now new r i old next later x y l p a (inl h) =
    subst (λ es. AreMoved ts new r es (i ∷ later)) (sym h.1) (record {
      right = λ q k w f. HasTree-more now new k (moved r (get_or ts q true_)) y (a.right q k w f);
      others = a.others;
      has = λ q m. go q m;
    })
  where
    here : (o : Option ℕ) → found i old ≡ o → IsSome o → HasTree new (or_index o i) (moved r (get_or ts i true_))
    here None e s = cc
    here (Some k) e s = HasTree-more now new k (moved r (get_or ts i true_)) y (a.right i k l e)

    go : (q : ℕ) → In q (i ∷ later) → HasTree new (image_at old q) (moved r (get_or ts q true_))
    go q (inl e) = subst (λ j. HasTree new (image_at old j) (moved r (get_or ts j true_))) (sym e) (here (found i old) refl h.0)
    go q (inr m) = HasTree-more now new (image_at old q) (moved r (get_or ts q true_)) y (a.has q m)
turn ts now new r i old next later x y l p a (inr h) =
    record {
      right = λ q k w f. right q k w (is_at (nat_cmp i) q) refl f;
      others = λ q w f. others q w (is_at (nat_cmp i) q) refl f;
      has = λ q m. has q (is_at (nat_cmp i) q) refl m;
    }
  where
    parts : HasParts ts i later
    parts = p h.none

    here : HasTree new h.index (moved r (get_or ts i true_))
    here =
        let g = h.remade.1 parts.node (HasNode-more ts now i parts.node x parts.stands) in
        record { within = g.within; tree = g.tree ∙ remade_moved ts now r old i later parts (a.others i l h.none) a.has }

    right : (q k : ℕ) → q < length ts → (b : Bool) → is_at (nat_cmp i) q ≡ b → found q next ≡ Some k → HasTree new k (moved r (get_or ts q true_))
    right q k w true z f =
        let e : h.index ≡ k = some_same _ _ (sym (h.images q ∙ ap (λ b. cond b (Some h.index) (found q old)) z) ∙ f) in
        subst (λ j. HasTree new j (moved r (get_or ts q true_))) e (subst (λ j. HasTree new h.index (moved r (get_or ts j true_))) (at_key i q z) here)
    right q k w false z f =
        HasTree-more now new k (moved r (get_or ts q true_)) y (a.right q k w (sym (h.images q ∙ ap (λ b. cond b (Some h.index) (found q old)) z) ∙ f))

    others : (q : ℕ) → q < length ts → (b : Bool) → is_at (nat_cmp i) q ≡ b → found q next ≡ None → r (get_or ts q true_) ≡ None
    others q w true z f = cc (sym (h.images q ∙ ap (λ b. cond b (Some h.index) (found q old)) z) ∙ f)
    others q w false z f = a.others q w (sym (h.images q ∙ ap (λ b. cond b (Some h.index) (found q old)) z) ∙ f)

    has : (q : ℕ) → (b : Bool) → is_at (nat_cmp i) q ≡ b → In q (i ∷ later) → HasTree new (image_at next q) (moved r (get_or ts q true_))
    has q true z m =
        subst (λ j. HasTree new j (moved r (get_or ts q true_))) (sym (ap (λ o. or_index o q) (h.images q ∙ ap (λ b. cond b (Some h.index) (found q old)) z)))
        (subst (λ j. HasTree new h.index (moved r (get_or ts j true_))) (at_key i q z) here)
    has q false z (inl e) = cc (ap (λ j. is_at (nat_cmp i) j) e ∙ at_itself i)
    has q false z (inr m) =
        subst (λ j. HasTree new j (moved r (get_or ts q true_))) (sym (ap (λ o. or_index o q) (h.images q ∙ ap (λ b. cond b (Some h.index) (found q old)) z)))
        (HasTree-more now new (image_at old q) (moved r (get_or ts q true_)) y (a.has q m))

-- the turn k of the loop
pub moved_turn : (ts now new : List Tree) (r : Tree → Option Tree) (images old next : List (ℕ × ℕ)) (e : ℕ) (done : List ℕ) (k : ℕ) → Extends ts now → Extends now new → IsWalk ts images e done [] → ((q : ℕ) → found q old ≡ None → found q images ≡ None) → k < length done → AreMoved ts now r old (drop (length done - k) done) → KeepsImage now new (get_or done (length done - 1 - k) 0) old next → AreMoved ts new r next (drop (length done - (k + 1)) done)
moved_turn ts now new r images old next e done k x y walk still l a kept =
    subst (AreMoved ts new r next) (sym whole) (turn ts now new r i old next later x y at.0 parts (subst (AreMoved ts now r old) rest a) kept)
  where
    m : ℕ
    m = length done - 1 - k

    i : ℕ
    i = get_or done m 0

    later : List ℕ
    later = drop (m + 1) done

    at : (i < length ts) × (found i images ≡ None → HasParts ts i (drop (suc m) done ++ []))
    at = walked_at ts images done [] m walk.walked (omega arith)

    parts : found i old ≡ None → HasParts ts i later
    parts f = subst (HasParts ts i) (append-nil (drop (suc m) done) ∙ ap (λ j. drop j done) (let z : suc m ≡ m + 1 = omega arith in z)) (at.1 (still i f))

    rest : drop (length done - k) done ≡ later
    rest = ap (λ j. drop j done) (let z : length done - k ≡ m + 1 = omega arith in z)

    whole : drop (length done - (k + 1)) done ≡ i ∷ later
    whole = ap (λ j. drop j done) (let z : length done - (k + 1) ≡ m = omega arith in z) ∙ drop_more done m 0 (omega arith)

pub kept_within : (now new : List Tree) (i : ℕ) (old next : List (ℕ × ℕ)) → Extends now new → i < length now → AreWithin (length now) old → KeepsImage now new i old next → AreWithin (length new) next
kept_within now new i old next y l w (inl h) q k f =
    let z = longer now new y in let u = w q k (ap (found q) (sym h.1) ∙ f) in (let v = u.0 in omega arith, let v = u.1 in omega arith)
kept_within now new i old next y l w (inr h) q k f = go (is_at (nat_cmp i) q) refl
  where
    z : length now ≤ length new
    z = longer now new y

    go : (b : Bool) → is_at (nat_cmp i) q ≡ b → (q < length new) × (k < length new)
    go true e =
        let x : h.index ≡ k = some_same _ _ (sym (h.images q ∙ ap (λ b. cond b (Some h.index) (found q old)) e) ∙ f) in
        (let v = at_key i q e in omega (arith, z), subst (λ j. j < length new) x h.remade.0)
    go false e = let u = w q k (sym (h.images q ∙ ap (λ b. cond b (Some h.index) (found q old)) e) ∙ f) in (let v = u.0 in omega (arith, z), let v = u.1 in omega (arith, z))

pub kept_still : (now new : List Tree) (i : ℕ) (old next : List (ℕ × ℕ)) → KeepsImage now new i old next → (q : ℕ) → found q next ≡ None → found q old ≡ None
kept_still now new i old next (inl h) q f = ap (found q) (sym h.1) ∙ f
kept_still now new i old next (inr h) q f = go (is_at (nat_cmp i) q) refl
  where
    go : (b : Bool) → is_at (nat_cmp i) q ≡ b → found q old ≡ None
    go true e = cc (sym (h.images q ∙ ap (λ b. cond b (Some h.index) (found q old)) e) ∙ f)
    go false e = sym (h.images q ∙ ap (λ b. cond b (Some h.index) (found q old)) e) ∙ f

pub node_at : (ts now : List Tree) (images : List (ℕ × ℕ)) (e : ℕ) (done : List ℕ) (m : ℕ) → Extends ts now → IsWalk ts images e done [] → m < length done → get_or done m 0 < length now
node_at ts now images e done m x walk l =
    let a = (walked_at ts images done [] m walk.walked l).0 in let z = longer ts now x in omega arith

-- after the last turn
pub moved_all : (ts now : List Tree) (r : Tree → Option Tree) (es : List (ℕ × ℕ)) (done : List ℕ) (k : ℕ) → length done ≤ k → AreMoved ts now r es (drop (length done - k) done) → AreMoved ts now r es done
moved_all ts now r es done k l a = let e : length done - k ≡ 0 = omega arith in subst (λ j. AreMoved ts now r es (drop j done)) e a

pub moved_start : (ts now : List Tree) (r : Tree → Option Tree) (images es : List (ℕ × ℕ)) (e k : ℕ) (done items : List ℕ) → items ≡ done → IsWalk ts images e done [] → AreMoved ts now r es items → k ≡ image_at es e → HasTree now k (moved r (get_or ts e true_))
moved_start ts now r images es e k done items z walk a f =
    subst (λ j. HasTree now j (moved r (get_or ts e true_))) (sym f) (a.has e (subst (In e) (append-nil done ∙ sym z) walk.has_start))

-- one term for another
pub one_within : (n s t : ℕ) (es : List (ℕ × ℕ)) → es ≡ (s, t) ∷ [] → s < n → t < n → AreWithin n es
one_within n s t es e ls lt q k f = go (is_at (nat_cmp q) s) refl
  where
    go : (b : Bool) → is_at (nat_cmp q) s ≡ b → (q < n) × (k < n)
    go true z =
        let x : t ≡ k = some_same _ _ (sym (ap (found q) e ∙ ap (λ b. cond b (Some t) None) z) ∙ f) in
        (let y = at_key q s z in omega arith, omega arith)
    go false z = cc (sym (ap (found q) e ∙ ap (λ b. cond b (Some t) None) z) ∙ f)

pub one_replaced : {E : Type 0} (r : Result ℕ E) (ts now : List Tree) (s t e : ℕ) (es : List (ℕ × ℕ)) → es ≡ (s, t) ∷ [] → IsScoped 0 (get_or ts s true_) → IfOk r (λ k. HasTree now k (moved (given ts es) (get_or ts e true_))) → IfOk r (λ k. HasTree now k (replace (get_or ts s true_) (get_or ts t true_) (get_or ts e true_)))
one_replaced (Err z) ts now s t e es h c a = a
one_replaced (Ok k) ts now s t e es h c a =
    record { within = a.within; tree = a.tree ∙ ap (λ ps. moved (given ts ps) (get_or ts e true_)) h ∙ moved-replace (get_or ts s true_) (get_or ts t true_) c (get_or ts e true_) }
