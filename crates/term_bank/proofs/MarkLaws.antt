-- Laws of lists of indices.
use Rattle.std.proofs.Common.{◌≡◌, ℕ, suc, ◌+◌, ◌<◌, ◌≤◌, Bool, true, false, cond, nat_eq, pred, List, [], ◌∷◌, ◌++◌, length, get_or, refl, ap, sym, ◌∙◌, arith, subst, rules, drop, zero, inl, inr, Result, Ok, Err}
use Rattle.std.specs.Prelude.{◌⊎◌, ◌↔◌, OnOk}
use Rattle.std.specs.Ordering.{nat_cmp, match_ordering}
use Rattle.std.specs.declared.cmp.Ordering.{Ordering}
use Rattle.std.specs.declared.cmp.Ordering.TheVariants.{Less, Equal, Greater}
use Rattle.std.specs.BTreeSet.{insert_key}
use Rattle.std.specs.BTreeMap.Range.{IsLtBy}
use Rattle.std.specs.List.{All}
use Rattle.std.proofs.lemmas.Map.Lookups.{exact_unsigned}
use Rattle.std.proofs.lemmas.Bool.Decides.{nat_tests}
use Rattle.std.proofs.lemmas.Bool.{cases_lt}
use Rattle.core_expr.specs.Tree.{Tree, true_}
use Rattle.core_expr.specs.Nodes.{Node, AreBelow}
use Rattle.core_expr.specs.Loose.{loose}
use Rattle.term_bank.specs.Banks.{IsDistinct, HasNode}
use Rattle.term_bank.specs.Images.{In, is_body, needs_image, IsNeeded, IsAdded, IsTouched, HasParts, IsStep, AreCovered, height, IsOnWay}
use Rattle.term_bank.proofs.TableLaws.{AreBelow-at, same_nodes}

pub In-append-left : (q : ℕ) (xs ys : List ℕ) → In q xs → In q (xs ++ ys)
In-append-left q [] ys h = absurd h
In-append-left q (x ∷ xs) ys (inl e) = inl e
In-append-left q (x ∷ xs) ys (inr h) = inr (In-append-left q xs ys h)

pub In-append-right : (q : ℕ) (xs ys : List ℕ) → In q ys → In q (xs ++ ys)
In-append-right q [] ys h = h
In-append-right q (x ∷ xs) ys h = inr (In-append-right q xs ys h)

pub In-parts : (q : ℕ) (xs ys : List ℕ) → In q (xs ++ ys) → In q xs ⊎ In q ys
In-parts q [] ys h = inr h
In-parts q (x ∷ xs) ys (inl e) = inl (inl e)
In-parts q (x ∷ xs) ys (inr h) = go (In-parts q xs ys h)
  where
    go : In q xs ⊎ In q ys → In q (x ∷ xs) ⊎ In q ys
    go (inl a) = inl (inr a)
    go (inr b) = inr b

-- a key that is inserted
In-insert : (xs : List ℕ) (k q : ℕ) → In q (insert_key nat_cmp xs k) → (q ≡ k) ⊎ In q xs
In-insert [] k q (inl e) = inl e
In-insert [] k q (inr h) = absurd h
In-insert (x ∷ xs) k q h = go (In-insert xs k q) (nat_cmp k x) h
  where
    later : (q ≡ k) ⊎ In q xs → (q ≡ k) ⊎ In q (x ∷ xs)
    later (inl e) = inl e
    later (inr a) = inr (inr a)

    go : (In q (insert_key nat_cmp xs k) → (q ≡ k) ⊎ In q xs) → (o : Ordering) → In q (match_ordering o (k ∷ x ∷ xs) (x ∷ xs) (x ∷ insert_key nat_cmp xs k)) → (q ≡ k) ⊎ In q (x ∷ xs)
    go f Less (inl e) = inl e
    go f Less (inr a) = inr a
    go f Equal a = inr a
    go f Greater (inl e) = inr (inl e)
    go f Greater (inr a) = later (f a)

insert-In : (xs : List ℕ) (k q : ℕ) → (q ≡ k) ⊎ In q xs → In q (insert_key nat_cmp xs k)
insert-In [] k q (inl e) = inl e
insert-In [] k q (inr h) = absurd h
insert-In (x ∷ xs) k q h = go (insert-In xs k q) (nat_cmp k x) refl h
  where
    go : ((q ≡ k) ⊎ In q xs → In q (insert_key nat_cmp xs k)) → (o : Ordering) → nat_cmp k x ≡ o → (q ≡ k) ⊎ In q (x ∷ xs) → In q (match_ordering o (k ∷ x ∷ xs) (x ∷ xs) (x ∷ insert_key nat_cmp xs k))
    go f Less z a = a
    go f Equal z (inl e) = inl (e ∙ exact_unsigned k x z)
    go f Equal z (inr a) = a
    go f Greater z (inl e) = inr (f (inl e))
    go f Greater z (inr (inl e)) = inl e
    go f Greater z (inr (inr a)) = inr (f (inr a))

pub inserted : (xs ys : List ℕ) (k : ℕ) → ys ≡ insert_key nat_cmp xs k → (q : ℕ) → In q ys ↔ ((q ≡ k) ⊎ In q xs)
inserted xs ys k e q = (λ h. In-insert xs k q (subst (In q) e h), λ h. subst (In q) (sym e) (insert-In xs k q h))

-- the height of a set
pub height-In : (q : ℕ) (xs : List ℕ) → In q xs → q < height xs
height-In q [] h = absurd h
height-In q (x ∷ xs) (inl e) = omega (arith, e)
height-In q (x ∷ xs) (inr h) = omega (arith, height-In q xs h)

pub height-le : (b : ℕ) (xs : List ℕ) → ((q : ℕ) → In q xs → q < b) → height xs ≤ b
height-le b [] h = omega arith
height-le b (x ∷ xs) h = omega (arith, h x (inl refl), height-le b xs (λ q a. h q (inr a)))

-- adding the parts of a node
pub added_more : (ts : List Tree) (n : Node) (d k p : ℕ) (old mid new : List ℕ) → k < length n.parts → needs_image ts n d k ≡ true → p ≡ get_or n.parts k 0 → ((q : ℕ) → In q new ↔ ((q ≡ p) ⊎ In q mid)) → IsAdded ts n d k old mid → IsAdded ts n d (k + 1) old new
added_more ts n d k p old mid new l e ep iff a =
    record {
      kept = λ q h. (iff q).1 (inr (a.kept q h));
      needed = λ j h w. elim (cases_lt j k) [
        | inl m ↦ (iff (get_or n.parts j 0)).1 (inr (a.needed j m w))
        | inr m ↦ let z : j ≡ k = omega arith in (iff (get_or n.parts j 0)).1 (inl (ap (λ i. get_or n.parts i 0) z ∙ sym ep))
      ];
      only = λ q h. go q ((iff q).0 h);
    }
  where
    go : (q : ℕ) → (q ≡ p) ⊎ In q mid → In q old ⊎ IsNeeded ts n d q
    go q (inl z) = inr (record { place = k; within = l; needs = e; is = sym ep ∙ sym z })
    go q (inr h) = a.only q h

-- a part that has the variable is below the node and has a variable
needed_below : (ts : List Tree) (i : ℕ) (n : Node) (d q : ℕ) → AreBelow i n.parts → d ≡ loose (get_or ts i true_) → IsNeeded ts n d q → (q < i) × (IsTouched ts i → IsTouched ts q)
needed_below ts i n d q b e a =
    let l : q < i = subst (λ p. p < i) a.is (AreBelow-at i n.parts a.place b a.within) in
    (l, λ t. (omega (arith, t.0), positive (is_body n.head a.place (length n.parts)) (loose (get_or ts q true_)) (subst (λ p. nat_eq (cond (is_body n.head a.place (length n.parts)) (pred (loose (get_or ts p true_))) (loose (get_or ts p true_))) d ≡ true) a.is a.needs) (omega (arith, t.1, e))))
  where
    positive : (c : Bool) (x : ℕ) → nat_eq (cond c (pred x) x) d ≡ true → 0 < d → 0 < x
    positive true x h p = grind (arith, nat_tests)
    positive false x h p = grind (arith, nat_tests)

pub step_of : (ts : List Tree) (i : ℕ) (n : Node) (d : ℕ) (old new : List ℕ) → IsDistinct ts → HasNode ts i n → AreBelow i n.parts → d ≡ loose (get_or ts i true_) → IsAdded ts n d (length n.parts) old new → IsStep ts i old new
step_of ts i n d old new s h b e a =
    record {
      kept = a.kept;
      parts = λ m g u k l w. let z : n ≡ m = same_nodes ts n m s h.node g.node (sym h.tree ∙ g.tree) in
          subst (λ (x : Node). In (get_or x.parts k 0) new) z (a.needed k (subst (λ (x : Node). k < length x.parts) (sym z) l) (subst (λ (x : Node). needs_image ts x d k ≡ true) (sym z) (subst (λ c. needs_image ts m c k ≡ true) (sym e) w)));
      only = λ q o. go q (a.only q o);
    }
  where
    go : (q : ℕ) → In q old ⊎ IsNeeded ts n d q → In q old ⊎ ((q < i) × (IsTouched ts i → IsTouched ts q))
    go q (inl o) = inl o
    go q (inr o) = inr (needed_below ts i n d q b e o)

covered_push : (ts : List Tree) (done old new : List ℕ) (k : ℕ) → ((q : ℕ) → In q old → In q (k ∷ new)) → IsTouched ts k → HasParts ts k new → AreCovered ts done old → AreCovered ts (done ++ k ∷ []) new
covered_push ts [] old new k f t p a = (t, p, tt)
covered_push ts (i ∷ is) old new k f t p a = (a.0, (λ n g u j l w. move (get_or n.parts j 0) (In-parts (get_or n.parts j 0) is old (a.1 n g u j l w))), covered_push ts is old new k f t p a.2)
  where
    last : (q : ℕ) → In q (k ∷ new) → In q ((is ++ k ∷ []) ++ new)
    last q (inl e) = In-append-left q (is ++ k ∷ []) new (In-append-right q is (k ∷ []) (inl e))
    last q (inr h) = In-append-right q (is ++ k ∷ []) new h

    move : (q : ℕ) → In q is ⊎ In q old → In q ((is ++ k ∷ []) ++ new)
    move q (inl h) = In-append-left q (is ++ k ∷ []) new (In-append-left q is (k ∷ []) h)
    move q (inr h) = last q (f q h)

pub on_way_first : (ts : List Tree) (body : ℕ) (done none todo : List ℕ) → done ≡ [] → none ≡ [] → IsTouched ts body → ((q : ℕ) → In q todo ↔ ((q ≡ body) ⊎ In q none)) → IsOnWay ts body done todo
on_way_first ts body done none todo e z t iff =
    record {
      covered = subst (λ is. AreCovered ts is todo) (sym e) tt;
      touched = λ q h. go q ((iff q).0 h);
      has_body = subst (λ is. In body (is ++ todo)) (sym e) ((iff body).1 (inl refl));
    }
  where
    go : (q : ℕ) → (q ≡ body) ⊎ In q none → IsTouched ts q
    go q (inl w) = subst (IsTouched ts) (sym w) t
    go q (inr h) = absurd (subst (In q) z h)

pub on_way_step : (ts : List Tree) (body k : ℕ) (done out old mid new : List ℕ) → out ≡ done ++ k ∷ [] → old ≡ mid ++ k ∷ [] → IsStep ts k mid new → IsOnWay ts body done old → IsOnWay ts body out new
on_way_step ts body k done out old mid new eo em s a =
    record {
      covered = subst (λ is. AreCovered ts is new) (sym eo) (covered_push ts done old new k (λ q h. put_off q (In-parts q mid (k ∷ []) (subst (In q) em h))) touched s.parts a.covered);
      touched = λ q h. go q (s.only q h);
      has_body = subst (λ is. In body (is ++ new)) (sym eo) (body_in (In-parts body done old a.has_body));
    }
  where
    put_off : (q : ℕ) → In q mid ⊎ In q (k ∷ []) → In q (k ∷ new)
    put_off q (inl h) = inr (s.kept q h)
    put_off q (inr (inl e)) = inl e
    put_off q (inr (inr h)) = absurd h

    touched : IsTouched ts k
    touched = a.touched k (subst (In k) (sym em) (In-append-right k mid (k ∷ []) (inl refl)))

    go : (q : ℕ) → In q mid ⊎ ((q < k) × (IsTouched ts k → IsTouched ts q)) → IsTouched ts q
    go q (inl h) = a.touched q (subst (In q) (sym em) (In-append-left q mid (k ∷ []) h))
    go q (inr h) = h.1 touched

    from_old : In body (k ∷ new) → In body ((done ++ k ∷ []) ++ new)
    from_old (inl e) = In-append-left body (done ++ k ∷ []) new (In-append-right body done (k ∷ []) (inl e))
    from_old (inr h) = In-append-right body (done ++ k ∷ []) new h

    body_in : In body done ⊎ In body old → In body ((done ++ k ∷ []) ++ new)
    body_in (inl h) = In-append-left body (done ++ k ∷ []) new (In-append-left body done (k ∷ []) h)
    body_in (inr h) = from_old (put_off body (In-parts body mid (k ∷ []) (subst (In body) em h)))

pub lower : (ts : List Tree) (k : ℕ) (old mid new : List ℕ) → old ≡ mid ++ k ∷ [] → ((q : ℕ) → In q mid → q < k) → IsStep ts k mid new → height new < height old
lower ts k old mid new em b s =
    let up : k < height old = height-In k old (subst (In k) (sym em) (In-append-right k mid (k ∷ []) (inl refl))) in
    let down : height new ≤ k = height-le k new (λ q h. go q (s.only q h)) in
    omega arith
  where
    go : (q : ℕ) → In q mid ⊎ ((q < k) × (IsTouched ts k → IsTouched ts q)) → q < k
    go q (inl h) = b q h
    go q (inr h) = h.0

-- what the set answers
pub lower_all : (k : ℕ) (xs : List ℕ) → All (λ q. IsLtBy nat_cmp q k) xs → (q : ℕ) → In q xs → q < k
lower_all k [] a q h = absurd h
lower_all k (x ∷ xs) a q (inl e) = subst (λ p. p < k) (sym e) (below x k (a 0 0 (omega arith)))
  where
    below : (x k : ℕ) → IsLtBy nat_cmp x k → x < k
    below x k h = search rules
lower_all k (x ∷ xs) a q (inr h) = lower_all k xs (λ j d l. a (suc j) d (omega arith)) q h

pub on_ok : {T E : Type 0} (r : Result T E) (P Q : Type 0) → (P → Q) → OnOk r P → OnOk r Q
on_ok (Ok x) P Q f h = f h
on_ok (Err e) P Q f h = h

pub is_last : (k : ℕ) (old mid : List ℕ) → old ≡ mid ++ k ∷ [] → In k old
is_last k old mid e = subst (In k) (sym e) (In-append-right k mid (k ∷ []) (inl refl))

pub covered_at : (ts : List Tree) (done todo : List ℕ) (m i : ℕ) → AreCovered ts done todo → m < length done → i ≡ get_or done m 0 → IsTouched ts i × HasParts ts i (drop (suc m) done ++ todo)
covered_at ts [] todo m i a h e = absurd (omega arith)
covered_at ts (x ∷ xs) todo zero i a h e = subst (λ q. IsTouched ts q × HasParts ts q (xs ++ todo)) (sym e) (a.0, a.1)
covered_at ts (x ∷ xs) todo (suc m) i a h e = covered_at ts xs todo m i a.2 (omega arith) e
